-- The bytes of a piece join the line that has begun, up to the first end of a line.
use mathlib.Core.Bool.{Bool, true, false, ◌&&◌}
use mathlib.Core.List.{List, [], ◌∷◌, ◌++◌}
use mathlib.Core.Path.{◌≡◌, refl, sym, ap, ap₂, ◌∙◌, subst}
use Prim.Native.Nat.{ℕ, ◌+◌, ◌<◌, min}
use native.Mathlib.Omega.{arith}
use lib.Dec.{eqb}
use Rattle.std.specs.Prelude.{Option, Some, None}
use native.Mathlib.Numerals.{add-one}
use lib.ListN.{length, take, drop, get_or, length-drop, length-append}
use lib.Seq.{take_all, split_at, drop-append-add}
use borrow.Author.Tests.{eqb-true, eqb-false}
use Rattle.ipl.proofs.Lists.{All_append}
use Rattle.text.specs.declared.draft.Draft.{Draft}
use Rattle.text.specs.Output.{Begins, Appends}
use Rattle.script.specs.Parts.{index_after, index_of}
use Rattle.script.specs.Words.{line_feed}
use Rattle.script.specs.Command.{is_blank}
use Rattle.script.specs.Pieces.{OneLine, Begun, Longer, GatheredFrom, GatheredWithin}
use Rattle.script.specs.declared.Pending.{Pending}
use Rattle.script.proofs.Blank.{blank_append}

-- ---- the line grows

pub joined : {more before after : List ℕ} {p r : Pending} {d e : Draft} → d.text.now ≡ before → d.len ≡ min p.length (length before)
    → Appends more d e → after ≡ e.text.now → r.length ≡ e.len
    → r.blank ≡ (p.blank && is_blank more) → Longer more before p after r
joined {more} {before} {after} {p} {r} {d} {e} same resumed a left long b = λ bytes h one. record {
  room = ap length left ∙ a.size ∙ ap length same ∙ h.room;
  kept = rw (left, long) (a.follows bytes (held bytes h.kept));
  blank = b ∙ ap (λ (t : Bool). t && is_blank more) h.blank ∙ sym (blank_append bytes more);
  one = All_append (λ x. x ≡ line_feed → ⊥) bytes more h.one one;
}
  where
    held : (bytes : List ℕ) → Begins bytes before p.length → Begins bytes d.text.now d.len
    held bytes k = let whole : min p.length (length before) ≡ p.length = omega (arith, k.fills) in rw (same, resumed, whole) k

-- ---- the first end of a line

-- Before the first byte 10 there is none.
before_feed : (l : List ℕ) → OneLine (take (index_of line_feed l) l)
unfolding index_of index_after
before_feed [] = tt
before_feed (x ∷ l) = go (eqb x line_feed) refl (before_feed l)
  where
    go : (b : Bool) → eqb x line_feed ≡ b → OneLine (take (index_of line_feed l) l) → OneLine (take (index_after b (index_of line_feed l)) (x ∷ l))
    go true e h = tt
    go false e h = (eqb-false x line_feed e, h)

at_feed : (l : List ℕ) → index_of line_feed l < length l → get_or l (index_of line_feed l) 0 ≡ line_feed
unfolding index_of index_after
at_feed [] h = absurd (omega arith)
at_feed (x ∷ l) h = go (eqb x line_feed) refl (at_feed l) h
  where
    go : (b : Bool) → eqb x line_feed ≡ b → (index_of line_feed l < length l → get_or l (index_of line_feed l) 0 ≡ line_feed) → index_after b (index_of line_feed l) < length (x ∷ l)
        → get_or (x ∷ l) (index_after b (index_of line_feed l)) 0 ≡ line_feed
    go true e f h = eqb-true x line_feed e
    go false e f h = f (omega arith)

module _ (piece : List ℕ) (end : ℕ) (found : end ≡ index_of line_feed piece) (before after : List ℕ) (p q : Pending)
    (grows : Longer (take end piece) before p after q) where
  no_feed : OneLine (take end piece)
  no_feed = subst (λ (n : ℕ). OneLine (take n piece)) (sym found) (before_feed piece)

  pub gathered_all : end ≡ length piece → GatheredWithin piece before p after q None
  gathered_all e =
      let whole : take end piece ≡ piece = take_all end piece (omega arith) in
      record {
        inside = tt;
        step = record {
          further = tt;
          does = λ bytes h. record {
            one = subst OneLine whole no_feed;
            begun = subst (λ (l : List ℕ). Begun (bytes ++ l) after q) whole (grows bytes h no_feed);
          };
        };
      }

  pub gathered_line : end < length piece → (rest : List ℕ) → rest ≡ drop (end + 1) piece → GatheredWithin piece before p after q (Some rest)
  gathered_line h rest e =
      let there : index_of line_feed piece < length piece = omega (arith, found) in
      let cut : piece ≡ take end piece ++ line_feed ∷ rest =
      split_at piece end 0 h
      ∙ ap₂ (λ (b : ℕ) (l : List ℕ). take end piece ++ b ∷ l) (rw found (at_feed piece there)) (sym (e ∙ rw add-one)) in
      record {
        inside = (end + 1, omega arith, e);
        step = record {
          further = omega (arith, ap length e, length-drop (end + 1) piece);
          does = λ bytes b. record { end = take end piece; one = no_feed; cut = cut; begun = grows bytes b no_feed };
        };
      }

-- Of a line that has begun, every step leaves an end of the piece.
pub within : {piece before after : List ℕ} {p q : Pending} (bytes : List ℕ) (r : Option (List ℕ)) → Begun bytes before p → GatheredFrom piece before p after q r
    → GatheredWithin piece before p after q r
within bytes None b g = record { inside = tt; step = g }
within {piece} bytes (Some rest) b g =
    let e = g.does bytes b in
    let left : drop (length e.end + 1) piece ≡ rest = ap (drop (length e.end + 1)) e.cut ∙ drop-append-add e.end (line_feed ∷ rest) 1 in
    record { inside = (length e.end + 1, omega (arith, ap length e.cut, length-append e.end (line_feed ∷ rest)), sym left); step = g }
