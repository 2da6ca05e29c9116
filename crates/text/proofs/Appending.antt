-- Laws of a text that is written piece by piece into a draft.
use mathlib.Core.List.{List, [], ◌++◌, append-nil, append_assoc}
use mathlib.Core.Logic.{◌⊎◌, inl, inr}
use mathlib.Core.Path.{◌≡◌, refl, sym, ap, ◌∙◌, subst}
use Prim.Native.Nat.{ℕ, ◌+◌, ◌-◌, ◌≤◌, ◌<◌, min}
use native.Mathlib.Decide.{dec_le}
use native.Mathlib.Nat.{add-zero}
use native.Mathlib.Omega.{arith}
use lib.ListN.{length, take, drop, length-append}
use lib.Seq.{length-take-le, take_all, take-append-le}
use borrow.Author.Tests.{le-leb}
use borrow.Rule.Slice.PartMut.{put_mid, mid_of, same_len_mid}
use Rattle.std.proofs.Math.Seq.{take-append-add}
use Rattle.std.proofs.lemmas.Slice.{take-put_mid}
use Rattle.atoms.specs.Bytes.{put_at}
use Rattle.atoms.proofs.Bytes.{put_past}
use Rattle.text.specs.declared.draft.Draft.{Draft}
use Rattle.text.specs.Output.{draft, longest, room, Begins, Holds, Appends, Started, Gives, Reported}

-- ---- pieces

pub same_text : {A B : List ℕ} {d e : Draft} → A ≡ B → Appends A d e → Appends B d e
same_text {A} {B} {d} {e} same p = subst (λ l. Appends l d e) same p

pub nothing : (d : Draft) → Appends [] d d
nothing d = record { same_reference = refl; size = refl; follows = λ T h. rw (append-nil T) h }

pub both : {A B : List ℕ} {d e f : Draft} → Appends A d e → Appends B e f → Appends (A ++ B) d f
both {A} {B} {d} {e} {f} p q = record {
  same_reference = q.same_reference ∙ p.same_reference;
  size = q.size ∙ p.size;
  follows = λ T h. subst (λ l. Holds l f) (append_assoc T A B) (q.follows (T ++ A) (p.follows T h));
}

-- In a full draft no byte more stands.
pub full : (new : List ℕ) (d : Draft) → d.len ≡ length d.text.now → Appends new d d
full new d all = record {
  same_reference = refl;
  size = refl;
  follows = λ T h. record {
    fills = omega (arith, all, h.fills, length-append T new);
    same = h.same ∙ sym (take-append-le d.len T new (omega (arith, all, h.fills)));
  };
}

-- As many of the new bytes as there is room for come after those that stand.
module _ (new text : List ℕ) (end n : ℕ) (few : n ≡ min (length new) (length text - end)) where
  taken : (T : List ℕ) → Begins T text end → take end T ++ take n new ≡ take (end + n) (T ++ new)
  taken T b = elim (dec_le (length T) end) [
    | yes h ↦
        let whole : take end T ≡ T = take_all end T h in
        let here : end ≡ length T = omega (arith, b.fills) in
        rw (whole, here) (sym (take-append-add T new n))
    | no h ↦
        let none : n ≡ 0 = omega (arith, b.fills) in
        rw (none, add-zero, append-nil) (sym (take-append-le end T new (omega (arith, b.fills))))
  ]

  module _ (mid : List ℕ) (is : mid ≡ take n new) (as_long : length mid ≡ length (mid_of end (end + n - end) text)) where
    abbrev after : List ℕ
    after = put_mid end (end + n - end) text mid

    pub same_size : length after ≡ length text
    same_size = same_len_mid end (end + n - end) text mid as_long

    pub begins_more : (T : List ℕ) → Begins T text end → Begins (T ++ new) after (end + n)
    begins_more T b =
        let long : length mid ≡ n = ap length is ∙ length-take-le n new (omega arith) in
        record {
          fills = omega (arith, b.fills, same_size, length-append T new);
          same =
              take-put_mid end (end + n - end) text mid (end + n) (omega arith) (omega (arith, b.fills))
              ∙ ap (λ l. take end text ++ l) is
              ∙ ap (λ l. l ++ take n new) b.same
              ∙ taken T b;
        }

-- ---- the whole text

-- What is appended to nothing is all that stands.
pub begun : {T : List ℕ} {d e : Draft} → d.len ≡ 0 → Appends T d e → Holds T e
begun {T} {d} empty p = p.follows [] (record { fills = omega (arith, empty); same = rw empty refl })

pub started : {T entry exit : List ℕ} {r : ℕ} {d e : Draft} → d.text.now ≡ entry → d.len ≡ 0 → Appends T d e → exit ≡ e.text.now → r ≡ e.len → Started T entry exit r
started same empty p left long = record { size = ap length left ∙ p.size ∙ ap length same; begins = rw (left, long) (begun empty p) }

module _ (T text output : List ℕ) (n : ℕ) (b : Begins T text n) (buffer : length text ≡ draft) where
  pub handed : (copied : List ℕ) → n < length text → n ≤ length output → copied ≡ take n text → Reported T output (copied ++ drop n output) n
  unfolding put_at longest
  handed copied h k is =
      let all : n ≡ length T = omega (arith, b.fills) in
      let whole : copied ≡ T = is ∙ b.same ∙ take_all n T (omega arith) in
      record {
        size = λ fits. all;
        written = λ fits.
            ap (λ l. l ++ drop n output) whole
            ∙ ap (λ (j : ℕ). T ++ drop j output) {x = n} {y = 0 + length T} (omega arith)
            ∙ sym (rw (le-leb (0 + length T) (length output) (omega arith)) refl);
        nothing = λ short. absurd (omega arith);
        unchanged = λ short. absurd (omega arith);
      }

  -- The text is as long as the buffer or longer, or the output is too short for it.
  pub unhanded : (length text ≤ n) ⊎ (length output < n) → Reported T output output 0
  unfolding longest
  unhanded h =
      record {
        size = λ fits. absurd (short fits h);
        written = λ fits. absurd (short fits h);
        nothing = λ _. refl;
        unchanged = λ _. refl;
      }
    where
      short : length T ≤ room output → (length text ≤ n) ⊎ (length output < n) → ⊥
      short fits (inl k) = omega (arith, b.fills)
      short fits (inr k) = omega (arith, b.fills)

-- What fits every draft fails to be written only where the output is too short.
pub reported_gives : {T entry exit : List ℕ} {r : ℕ} → length T ≤ longest → Reported T entry exit r → Gives T entry exit r
reported_gives {T} {entry} {exit} {r} h p = elim (dec_le (length T) (length entry)) [
  | yes k ↦
      let fits : length T ≤ room entry = omega arith in
      record { output = p.written fits; fits = λ _. p.size fits; short = λ l. absurd (omega arith) }
  | no k ↦
      let short : room entry < length T = omega arith in
      record { output = p.unchanged short ∙ put_past entry 0 T (omega arith); fits = λ l. absurd (omega arith); short = λ _. p.nothing short }
]

-- Bytes written are bytes of the output.
pub reported_inside : {T entry exit : List ℕ} {r : ℕ} → Reported T entry exit r → r ≤ length entry
reported_inside {T} {entry} p = elim (dec_le (length T) (room entry)) [
  | yes h ↦ omega (arith, p.size h)
  | no h ↦ omega (arith, p.nothing (omega arith))
]

pub given_inside : {T entry exit : List ℕ} {r : ℕ} → Gives T entry exit r → r ≤ length entry
given_inside {T} {entry} g = elim (dec_le (length T) (length entry)) [
  | yes h ↦ omega (arith, g.fits h)
  | no h ↦ omega (arith, g.short (omega arith))
]
