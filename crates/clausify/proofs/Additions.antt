-- Additions that are not refused go to the end of the book's lists; those in range, with room for them, are not refused.
use mathlib.Core.Bool.{Bool, true, false, not, cond, ◌&&◌}
use mathlib.Core.List.{List, [], ◌∷◌, ◌++◌, map, append-nil, append_assoc}
use mathlib.Core.Path.{◌≡◌, refl, sym, ap, ◌∙◌, subst}
use Prim.Native.Nat.{ℕ, ◌+◌, ◌≤◌}
use native.Mathlib.Omega.{arith}
use lib.Dec.{T, eqb, leb}
use lib.ListN.{length, length-append}
use borrow.Author.Tests.{lt-leb}
use Rattle.atoms.proofs.Truth.{T_true}
use Rattle.ipl.specs.Lists.{All}
use Rattle.ipl.specs.Clause.{bot, Flat, Implication, closing, closings}
use Rattle.ipl.specs.Range.{flat_table, implication_table, flat_in_range, implication_in_range}
use Rattle.ipl.specs.Book.{Book, Addition, add_flat, add_implication, add, flats_full, flat_refusal, implication_refusal, addition_refusal, refusal, added, taken, next, after}
use Rattle.ipl.proofs.Book.{next_taken}
use Rattle.clausify.specs.Additions.{flats_by, implications_by, Unrefused}

-- Its numbers are in range over n atoms.
abbrev pub AddsInRange : ℕ → Addition → Type 0
AddsInRange n (add_flat f) = T (flat_in_range n f)
AddsInRange n (add_implication i) = T (implication_in_range n i)

-- The book with the clauses of the additions at its end.
abbrev with_added : Book → List Addition → Book
with_added k cs = record { n = k.n; flats = k.flats ++ flats_by cs; implications = k.implications ++ implications_by cs; steps = k.steps; marks = k.marks }

pub flats_by_append : (cs ds : List Addition) → flats_by (cs ++ ds) ≡ flats_by cs ++ flats_by ds
unfolding flats_by
flats_by_append [] ds = refl
flats_by_append (add_flat f ∷ cs) ds = ap (λ (F : List Flat). f ∷ F) (flats_by_append cs ds)
flats_by_append (add_implication i ∷ cs) ds = ap (λ (F : List Flat). closings i ++ F) (flats_by_append cs ds) ∙ sym (append_assoc (closings i) (flats_by cs) (flats_by ds))

pub implications_by_append : (cs ds : List Addition) → implications_by (cs ++ ds) ≡ implications_by cs ++ implications_by ds
unfolding implications_by
implications_by_append [] ds = refl
implications_by_append (add_flat f ∷ cs) ds = implications_by_append cs ds
implications_by_append (add_implication i ∷ cs) ds = ap (λ (X : List Implication). i ∷ X) (implications_by_append cs ds)

-- One addition, then the others.
added_first : (c : Addition) (k : Book) (cs : List Addition) → with_added (added k c) cs ≡ with_added k (c ∷ cs)
unfolding added flats_by implications_by
added_first (add_flat f) k cs = rw (append_assoc k.flats (f ∷ []) (flats_by cs))
added_first (add_implication i) k cs = rw (append_assoc k.flats (closings i) (flats_by cs), append_assoc k.implications (i ∷ []) (implications_by cs))

-- An addition that is not refused.
next_added : (k : Book) (c : Addition) → addition_refusal k c ≡ 0 → next k (add c) ≡ added k c
unfolding refusal taken
next_added k c e = next_taken k (add c) e

pub after_additions : (cs : List Addition) (k : Book) → Unrefused k cs → after k (map add cs) ≡ with_added k cs
unfolding after flats_by implications_by
after_additions [] k u = rw (append-nil k.flats, append-nil k.implications)
after_additions (c ∷ cs) k u =
    after_additions cs (next k (add c)) u.1 ∙ ap (λ (x : Book). with_added x cs) (next_added k c u.0) ∙ added_first c k cs

-- There is room in the book for the clauses of the additions.
pub record Room (k : Book) (cs : List Addition) : Type 0 where
  pub flats : length k.flats + length (flats_by cs) ≤ flat_table
  pub implications : length k.implications + length (implications_by cs) ≤ implication_table

unrefused_first : (c : Addition) (k : Book) (cs : List Addition) → AddsInRange k.n c → Room k (c ∷ cs) → addition_refusal k c ≡ 0
unfolding addition_refusal flat_refusal implication_refusal flats_full flats_by implications_by closings
unrefused_first (add_flat f) k cs h r = rw (T_true (flat_in_range k.n f) h, lt-leb flat_table (length k.flats) (omega (arith, r.flats)))
unrefused_first (add_implication i) k cs h r = rw (T_true (implication_in_range k.n i) h) (go (eqb i.b bot) r.flats)
  where
    go : (b : Bool) → length k.flats + length (cond b [] (closing i ∷ []) ++ flats_by cs) ≤ flat_table
        → ◌≡◌ {A = ℕ} (cond (not b && leb flat_table (length k.flats)) 7 (cond (leb implication_table (length k.implications)) 8 0)) 0
    go true l = rw (lt-leb implication_table (length k.implications) (omega (arith, r.implications)))
    go false l = rw (lt-leb flat_table (length k.flats) (omega arith), lt-leb implication_table (length k.implications) (omega (arith, r.implications)))

room_next : (c : Addition) (k : Book) (cs : List Addition) → Room k (c ∷ cs) → Room (added k c) cs
unfolding added flats_by implications_by
room_next (add_flat f) k cs r = record { flats = omega (arith, r.flats, length-append k.flats (f ∷ [])); implications = r.implications }
room_next (add_implication i) k cs r = record {
  flats = omega (arith, r.flats, length-append k.flats (closings i), length-append (closings i) (flats_by cs));
  implications = omega (arith, r.implications, length-append k.implications (i ∷ []));
}

same_atoms : (c : Addition) (k : Book) → (added k c).n ≡ k.n
unfolding added
same_atoms (add_flat f) k = refl
same_atoms (add_implication i) k = refl

pub additions_unrefused : (cs : List Addition) (k : Book) → All (AddsInRange k.n) cs → Room k cs → Unrefused k cs
additions_unrefused [] k h r = tt
additions_unrefused (c ∷ cs) k h r =
    let e = unrefused_first c k cs h.0 r in (
      e,
      rw (next_added k c e) (additions_unrefused cs (added k c) (subst (λ (n : ℕ). All (AddsInRange n) cs) (sym (same_atoms c k)) h.1) (room_next c k cs r)),
    )
