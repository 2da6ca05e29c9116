-- Laws of the refusals' numbers: what a call that meets none may rely on.
use mathlib.Core.Bool.{true, false, cond, not, ◌&&◌, and-false}
use mathlib.Core.List.{List, [], ◌∷◌, ◌++◌, append-nil}
use mathlib.Core.Logic.{◌⊎◌, inl, inr}
use mathlib.Core.Path.{◌≡◌, sym, ap}
use Prim.Native.Nat.{ℕ, ◌<◌}
use native.Mathlib.Decide.{dec_le}
use native.Mathlib.Omega.{arith}
use lib.Dec.{eqb, leb}
use lib.ListN.{length}
use borrow.Author.Tests.{eqb-true, eq-eqb, ne_eqb, lt-leb}
use Rattle.ipl.specs.Clause.{bot, one, Flat, Implication, closing, closings}
use Rattle.ipl.specs.Range.{flat_table, implication_table}
use Rattle.ipl.specs.Book.{flat_refusal, implication_refusal, flats_full}
use Rattle.ipl.proofs.Lists.{tabulate_length}
use Rattle.ipl.proofs.Range.{implication_below, single_one}
use Rattle.ipl.proofs.Authors.{passes_test, author_zero}
use Rattle.ipl.proofs.Book.{flat_unrefused, ImplicationUnrefused, implication_unrefused}
use Rattle.refusal.specs.Numbers.{number_of}
use Rattle.refusal.specs.declared.Refusal.{Refusal}
use Rattle.refusal.specs.declared.Refusal.TheVariants as refusal
use Rattle.sat.specs.Table.{clause_at, clauses}
use Rattle.prover.specs.State.{implication_row, flats_of, implications_of, book}
use Rattle.prover.specs.InRange.{in_range}
use Rattle.prover.specs.Work.{work_at, works_of}
use Rattle.prover.specs.Calls.{number, mean_number, flat_number, implication_number, ClosingFits}
use Rattle.prover.specs.declared.Session.{Session}
use Rattle.prover.proofs.Sessions.{few_atoms}

pub clauses_length : (left right : List ℕ) (count : ℕ) → length (clauses left right count) ≡ count
unfolding clauses
clauses_length left right count = tabulate_length (clause_at left right) count

-- A number that is 0 is that of a session in range.
pub number_zero : (s : Session) (k : ℕ) → number s k ≡ 0 → (in_range s ≡ true) × (k ≡ 0)
number_zero s k = passes_test (in_range s) k 4

-- No refusal has the number 0.
pub is_refusal : (e : Refusal) → number_of e ≡ 0 → ⊥
is_refusal refusal.Length z = omega (arith, z)
is_refusal refusal.Depth z = omega (arith, z)
is_refusal (refusal.Form place) z = omega (arith, z)
is_refusal refusal.Names z = omega (arith, z)
is_refusal refusal.Range z = omega (arith, z)
is_refusal refusal.Atom z = omega (arith, z)
is_refusal refusal.FlatsFull z = omega (arith, z)
is_refusal refusal.ImplicationsFull z = omega (arith, z)
is_refusal refusal.NoVerdict z = omega (arith, z)
is_refusal refusal.NoRoom z = omega (arith, z)
is_refusal refusal.WorldsFull z = omega (arith, z)
is_refusal refusal.StepsFull z = omega (arith, z)
is_refusal refusal.NoMark z = omega (arith, z)
is_refusal refusal.MarkLost z = omega (arith, z)
is_refusal refusal.PageFull z = omega (arith, z)
is_refusal refusal.NoAuthor z = omega (arith, z)
is_refusal refusal.NoMean z = omega (arith, z)
is_refusal refusal.Letters z = omega (arith, z)

-- A mean that is not refused is of an author who has a verdict.
pub mean_zero : (s : Session) (a : ℕ) → mean_number s a ≡ 0 → 0 < (work_at (works_of s.authors) a).verdicts
mean_zero s a e =
    let verdicts = (work_at (works_of s.authors) a).verdicts in
    let z = (author_zero a (cond (eqb verdicts 0) 21 0) (number_zero s _ e).1).1 in
    elim (dec_le verdicts 0) [ yes l ↦ omega (arith, rw (eq-eqb verdicts 0 (omega arith)) at z) | no l ↦ omega arith ]

-- ---- the tables have room

pub flat_room : (s : Session) (f : Flat) → flat_number s f ≡ 0 → s.flats.count < flat_table
flat_room s f e =
    omega (arith, (flat_unrefused (book s) f (number_zero s (flat_refusal (book s) f) e).1).1, clauses_length s.flats.left s.flats.right s.flats.count)

module _ (s : Session) (i : Implication) (e : implication_number s i ≡ 0) where
  unrefused : ImplicationUnrefused (book s) i
  unrefused = implication_unrefused (book s) i (number_zero s (implication_refusal (book s) i) e).1

  pub closing_fits : ClosingFits s.flats i.b i.c
  closing_fits =
      let o = implication_below s.n i unrefused.is_in_range in
      let h = few_atoms s (number_zero s (implication_refusal (book s) i) e).0 in
      record { row = room unrefused.row; b_atom = single_one s.n i.b h o.b; c_atom = single_one s.n i.c h o.c }
    where
      room : (eqb i.b bot ≡ true) ⊎ (length (flats_of s.flats) < flat_table) → (i.b ≡ bot → ⊥) → s.flats.count < flat_table
      room (inl t) f = absurd (f (eqb-true i.b bot t))
      room (inr l) f = omega (arith, clauses_length s.flats.left s.flats.right s.flats.count)

  pub implication_room : s.implications.count < implication_table
  implication_room = omega (arith, unrefused.room, tabulate_length (implication_row s.implications) s.implications.count)

-- ---- the closing clause

pub closing_none : (F : List Flat) (a b c : ℕ) → b ≡ bot → F ≡ F ++ closings (record { a = a; b = b; c = c })
unfolding closings
closing_none F a b c e = rw (eq-eqb b bot e) (sym (append-nil F))

pub closing_some : (F : List Flat) (a b c l r : ℕ) → (b ≡ bot → ⊥) → l ≡ one b → r ≡ one c
    → F ++ (record { left = l; right = r } ∷ []) ≡ F ++ closings (record { a = a; b = b; c = c })
unfolding closings closing
closing_some F a b c l r d el er = rw (ne_eqb b bot d, el, er)

-- ---- the tables' tests by their counts

pub flats_full_lem : (s : Session) → flats_full (book s) ≡ leb flat_table s.flats.count
unfolding flats_full
flats_full_lem s = ap (leb flat_table) (clauses_length s.flats.left s.flats.right s.flats.count)

pub implications_length : (s : Session) → length (implications_of s.implications) ≡ s.implications.count
implications_length s = tabulate_length (implication_row s.implications) s.implications.count

-- An implication needs a flat row unless its b is ⊥.
pub no_row_lacking : (b flats : ℕ) → (b ≡ bot) ⊎ (flats < flat_table) → not (eqb b bot) && leb flat_table flats ≡ false
no_row_lacking b flats (inl e) = rw (eq-eqb b bot e)
no_row_lacking b flats (inr l) = rw (lt-leb flat_table flats l) (and-false (not (eqb b bot)))
