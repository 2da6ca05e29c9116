-- What setting a mark and coming back to one make of the book of a session.
use mathlib.Core.Bool.{true}
use mathlib.Core.List.{[]}
use mathlib.Core.Path.{◌≡◌, sym, ap, ◌∙◌}
use Prim.Native.Nat.{ℕ, suc, ◌+◌, ◌≤◌, ◌<◌}
use native.Mathlib.Numerals.{add-one}
use native.Mathlib.Omega.{arith}
use lib.ListN.{take}
use Rattle.ipl.specs.Marks.{Mark, place_of, mark_at}
use Rattle.ipl.specs.Book.{Book, return_refusal, mark_now, returned}
use Rattle.ipl.proofs.Lists.{tabulate_length, tabulate_at, tabulate_take}
use Rattle.ipl.proofs.Book.{return_unrefused}
use Rattle.sat.specs.Table.{clause_at, clauses}
use Rattle.prover.specs.State.{implication_row, step_row, mark_row, flats_of, implications_of, steps_of, marks_of, book_of, book}
use Rattle.prover.specs.InRange.{in_range}
use Rattle.prover.specs.Calls.{return_number}
use Rattle.prover.specs.declared.Flats.{Flats}
use Rattle.prover.specs.declared.Implications.{Implications}
use Rattle.prover.specs.declared.Steps.{Steps}
use Rattle.prover.specs.declared.Marks.{Marks}
use Rattle.prover.specs.declared.Session.{Session}
use Rattle.prover.proofs.Refusals.{clauses_length, number_zero}
use Rattle.prover.proofs.Sessions.{mark_inside}

-- What is remembered are the tables' counts.
pub now_is : (s : Session) (j : ℕ) → mark_now (book s) j ≡ record { number = j; flats = s.flats.count; implications = s.implications.count; steps = s.steps.count }
now_is s j = λ i. record {
  number = j;
  flats = clauses_length s.flats.left s.flats.right s.flats.count i;
  implications = tabulate_length (implication_row s.implications) s.implications.count i;
  steps = tabulate_length (step_row s.steps) s.steps.count i;
}

-- ---- tables with fewer rows

flats_cut : (t : Flats) (k : ℕ) → k ≤ t.count → flats_of (record { count = k; left = t.left; right = t.right }) ≡ take k (flats_of t)
unfolding clauses
flats_cut t k h = sym (tabulate_take (clause_at t.left t.right) t.count k h)

implications_cut : (t : Implications) (k : ℕ) → k ≤ t.count → implications_of (record { count = k; rows = t.rows }) ≡ take k (implications_of t)
implications_cut t k h = sym (tabulate_take (implication_row t) t.count k h)

steps_cut : (t : Steps) (k : ℕ) → k ≤ t.count → steps_of (record { count = k; numbers = t.numbers; assumed = t.assumed }) ≡ take k (steps_of t)
steps_cut t k h = sym (tabulate_take (step_row t) t.count k h)

marks_cut : (t : Marks) (i : ℕ) → i < t.count → marks_of (record { count = i + 1; rows = t.rows }) ≡ take (suc i) (marks_of t)
marks_cut t i l = sym (tabulate_take (mark_row t) t.count (i + 1) (omega arith)) ∙ ap (λ (n : ℕ). take n (marks_of t)) (add-one i)

-- ---- the rows that a mark remembers

-- The tables cut to the mark at place i.
abbrev pub cut_flats : Session → ℕ → Flats
cut_flats s i = record { count = (mark_row s.marks i).flats; left = s.flats.left; right = s.flats.right }

abbrev pub cut_implications : Session → ℕ → Implications
cut_implications s i = record { count = (mark_row s.marks i).implications; rows = s.implications.rows }

abbrev pub cut_book : Session → ℕ → Book
cut_book s i =
    book_of s.n (cut_flats s i) (cut_implications s i)
    (record { count = (mark_row s.marks i).steps; numbers = s.steps.numbers; assumed = s.steps.assumed }) (record { count = i + 1; rows = s.marks.rows })

pub book_cut : (s : Session) → in_range s ≡ true → (i : ℕ) → i < s.marks.count → cut_book s i ≡ returned (book s) i
unfolding returned
book_cut s is_in_range i l =
    let m = mark_row s.marks i in
    let there : m ≡ mark_at (marks_of s.marks) i = sym (tabulate_at (mark_row s.marks) (mark_at [] 0) s.marks.count i l) in
    let inside = mark_inside s is_in_range i l in
    λ x. record {
      n = s.n;
      flats = (flats_cut s.flats m.flats inside.0 ∙ ap (λ (k : Mark). take k.flats (flats_of s.flats)) there) x;
      implications = (implications_cut s.implications m.implications inside.1 ∙ ap (λ (k : Mark). take k.implications (implications_of s.implications)) there) x;
      steps = (steps_cut s.steps m.steps inside.2 ∙ ap (λ (k : Mark). take k.steps (steps_of s.steps)) there) x;
      marks = marks_cut s.marks i l x;
    }

-- ---- a return that is not refused

module _ (s : Session) (j : ℕ) (e : return_number s j ≡ 0) where
  pub return_in_range : in_range s ≡ true
  return_in_range = (number_zero s (return_refusal (book s) j) e).0

  module _ (i : ℕ) (q : i ≡ place_of j (marks_of s.marks)) where
    pub place_inside : i < s.marks.count
    place_inside =
        omega (arith, q, return_unrefused (book s) j (number_zero s (return_refusal (book s) j) e).1, tabulate_length (mark_row s.marks) s.marks.count)
