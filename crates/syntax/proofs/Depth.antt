-- Refusal 2, beginning by beginning.
use mathlib.Core.Bool.{Bool, true, false, cond}
use mir.Val.{bool_byte}
use mathlib.Core.List.{List, [], ◌∷◌, ◌++◌}
use mathlib.Core.Path.{◌≡◌, refl, sym, ◌∙◌, subst}
use Prim.Native.Nat.{ℕ, suc, ◌+◌, ◌≤◌, ◌<◌}
use native.Mathlib.Decide.{dec_lt}
use native.Mathlib.Numerals.{add-one}
use native.Mathlib.Omega.{arith}
use lib.Dec.{eqb}
use lib.ListN.{length, get_or, take}
use lib.Seq.{take-suc, take_all}
use Rattle.atoms.proofs.Truth.{by_cond}
use Rattle.syntax.specs.Refusal.{count, most_open, TooDeepAt, TooDeep}
use Rattle.syntax.specs.Judge.{is_byte}

count_snoc : (x : ℕ) (u : List ℕ) (b : ℕ) → count x (u ++ (b ∷ [])) ≡ count x u + is_byte x b
unfolding count
count_snoc x [] b = by_cond (λ (n : ℕ). is_byte x b ≡ 0 + n) (eqb b x) 1 0 (λ e. rw e) (λ e. rw e)
count_snoc x (a ∷ u) b =
    let ih = count_snoc x u b in
    by_cond (λ (n : ℕ). cond (eqb a x) (suc (count x (u ++ (b ∷ [])))) (count x (u ++ (b ∷ []))) ≡ n + is_byte x b) (eqb a x) (suc (count x u)) (count x u)
    (λ e. rw e (omega arith)) (λ e. rw e (omega arith))

pub bool_cond : (t : Bool) → bool_byte t ≡ cond t 1 0
bool_cond true = refl
bool_cond false = refl

pub one_byte : (x b : ℕ) → is_byte x b ≤ 1
one_byte x b = by_cond (λ (n : ℕ). n ≤ 1) (eqb b x) 1 0 (λ e. omega arith) (λ e. omega arith)

-- The counts of the first i bytes; none of those beginnings is too deep.
pub record Shallow (s : List ℕ) (opened closed i : ℕ) : Type 0 where
  pub inside : i ≤ length s
  pub opened_is : opened ≡ count 40 (take i s)
  pub closed_is : closed ≡ count 41 (take i s)
  pub opened_small : opened ≤ i
  pub closed_small : closed ≤ i
  pub none : (k : ℕ) → k ≤ i → TooDeepAt s k → ⊥

module _ (s : List ℕ) where
  pub shallow_start : Shallow s 0 0 0
  unfolding count
  shallow_start = record {
    inside = omega arith;
    opened_is = refl;
    closed_is = refl;
    opened_small = omega arith;
    closed_small = omega arith;
    none = λ k h t. let e : k ≡ 0 = omega arith in absurd (shallow_none (subst (λ (j : ℕ). TooDeepAt s j) e t));
  }
    where
      shallow_none : TooDeepAt s 0 → ⊥
      shallow_none t = omega arith

  pub counts : (i : ℕ) → i < length s → (x : ℕ) → count x (take (i + 1) s) ≡ count x (take i s) + is_byte x (get_or s i 0)
  counts i w x = rw (add-one, take-suc s i 0) (count_snoc x (take i s) (get_or s i 0))

  module _ (opened closed i : ℕ) (h : Shallow s opened closed i) (w : i < length s) where
    module _ (a b : ℕ) (ea : a ≡ is_byte 40 (get_or s i 0)) (eb : b ≡ is_byte 41 (get_or s i 0)) where
      pub found_deep : most_open + (closed + b) < opened + a → TooDeep s
      found_deep d = (i + 1, omega (arith, counts i w 40, counts i w 41, h.opened_is, h.closed_is, ea, eb))

      pub shallow_next : (most_open + (closed + b) < opened + a → ⊥) → Shallow s (opened + a) (closed + b) (i + 1)
      shallow_next n = record {
        inside = omega arith;
        opened_is = omega (arith, counts i w 40, h.opened_is, ea);
        closed_is = omega (arith, counts i w 41, h.closed_is, eb);
        opened_small = omega (arith, h.opened_small, ea, one_byte 40 (get_or s i 0));
        closed_small = omega (arith, h.closed_small, eb, one_byte 41 (get_or s i 0));
        none = λ k l t. elim (dec_lt k (i + 1)) [
          | yes e ↦ h.none k (omega arith) t
          | no e ↦ let q : k ≡ i + 1 = omega arith in n (last (subst (λ (j : ℕ). TooDeepAt s j) q t))
        ];
      }
        where
          last : TooDeepAt s (i + 1) → most_open + (closed + b) < opened + a
          last t = omega (arith, counts i w 40, counts i w 41, h.opened_is, h.closed_is, ea, eb)

  pub shallow_all : (opened closed i : ℕ) → Shallow s opened closed i → length s ≤ i → TooDeep s → ⊥
  shallow_all opened closed i h l (k, t) = elim (dec_lt k i) [
    | yes e ↦ h.none k (omega arith) t
    | no e ↦ h.none i (omega arith) (let q : take k s ≡ take i s = take_all k s (omega (arith, h.inside)) ∙ sym (take_all i s l) in subst (λ (u : List ℕ). most_open + count 41 u < count 40 u) q t)
  ]
