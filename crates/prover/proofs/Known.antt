-- Laws of the table of all clauses known, as it is first written.
use mathlib.Core.List.{List, ◌++◌, map}
use mathlib.Core.Path.{◌≡◌, sym, ap₂, ◌∙◌}
use Prim.Native.Nat.{ℕ, ◌+◌, ◌<◌}
use native.Mathlib.Omega.{arith}
use lib.ListN.{length}
use Rattle.atoms.specs.Sets.{minus}
use Rattle.atoms.specs.Words.{row_of, row_count, RowsSet}
use Rattle.ipl.specs.Range.{flat_table, step_table}
use Rattle.atoms.proofs.Machine.{row_count_words, same_rows, single_bits, rows_first}
use Rattle.ipl.specs.Lists.{tabulate}
use Rattle.ipl.specs.Clause.{learned}
use Rattle.ipl.specs.Search.{clause_of, known}
use Rattle.ipl.proofs.Lists.{tabulate_at, tabulate_same, map_tabulate, tabulate_append}
use Rattle.ipl.proofs.Range.{ImplicationBelow, implication_below, single_one}
use Rattle.sat.specs.Table.{clause_at, clauses}
use Rattle.prover.specs.State.{byte_at, implication_row, step_row, flats_of, implications_of, steps_of}
use Rattle.prover.specs.Working.{Usable, learned_row, StepsFit, StepsWritten, StepsKnown, KnownWritten}
use Rattle.prover.specs.declared.Flats.{Flats}
use Rattle.prover.specs.declared.Implications.{Implications}
use Rattle.prover.specs.declared.Steps.{Steps}
use Rattle.prover.specs.declared.working.Known.{Known}

-- The row written for a step is its clause.
pub learned_row_lem : (n : ℕ) (x : Implications) → Usable n x → (i A : ℕ) → i < x.count → learned_row x i A ≡ clause_of (implications_of x) (record { number = i; assumed = A })
unfolding clause_of learned
learned_row_lem n x u i A l =
    let below : ImplicationBelow n (implication_row x i) = implication_below n (implication_row x i) (u.rows i l) in
    rw (tabulate_at (implication_row x) (record { a = 0; b = 0; c = 0 }) x.count i l)
    (ap₂ (λ (a b : ℕ). record { left = minus A a; right = b }) (single_bits (implication_row x i).a (omega (arith, below.a, u.few)))
    (single_one n (implication_row x i).c u.few below.c))

-- There is room for the clauses of the steps.
pub steps_fit : (left right : List ℕ) (flats : Flats) (steps : Steps) (x : Implications) → length left ≡ flat_table + step_table → length right ≡ flat_table + step_table
    → StepsKnown flats steps x → StepsFit left right flats.count steps x
steps_fit left right flats steps x l r f = record {
  flats_room = f.few_flats;
  left_room = omega (arith, f.few_flats, f.few_steps, row_count_words left (flat_table + step_table) l);
  right_room = omega (arith, f.few_flats, f.few_steps, row_count_words right (flat_table + step_table) r);
  count = f.few_steps;
  implications = f.implications;
  numbers = f.numbers;
}

module _ (left right left1 right1 : List ℕ) (flats : Flats) (steps : Steps) (x : Implications) (k : Known) (f : StepsFit left1 right1 flats.count steps x)
    (sl : row_count left1 ≡ flat_table + step_table) (sr : row_count right1 ≡ flat_table + step_table)
    (l : RowsSet left 0 flats.left flats.count left1) (r : RowsSet right 0 flats.right flats.count right1)
    (w : StepsWritten left1 right1 flats.count steps x steps.count k.left k.right) (n : ℕ) (u : Usable n x) where
  flat_rows : clauses k.left k.right flats.count ≡ flats_of flats
  unfolding clauses
  flat_rows = tabulate_same (clause_at k.left k.right) (clause_at flats.left flats.right) flats.count
      (λ i h. w.flats_stay i h ∙ ap₂ (λ (x y : ℕ). record { left = x; right = y })
      (rows_first left flats.left left1 flats.count l i h (omega (arith, f.left_room, same_rows left1 left l.size)))
      (rows_first right flats.right right1 flats.count r i h (omega (arith, f.right_room, same_rows right1 right r.size))))

  step_rows : tabulate (λ j. clause_at k.left k.right (flats.count + j)) steps.count ≡ map (clause_of (implications_of x)) (steps_of steps)
  step_rows =
      tabulate_same (λ j. clause_at k.left k.right (flats.count + j)) (λ j. clause_of (implications_of x) (step_row steps j)) steps.count
      (λ j h. w.learned_follow j h ∙ learned_row_lem n x u (byte_at steps.numbers j) (row_of steps.assumed j) (f.numbers j h))
      ∙ sym (map_tabulate (clause_of (implications_of x)) (step_row steps) steps.count)

  known_rows : clauses k.left k.right (flats.count + steps.count) ≡ known (flats_of flats) (implications_of x) (steps_of steps)
  unfolding clauses known
  known_rows = tabulate_append (clause_at k.left k.right) flats.count steps.count ∙ ap₂ (λ F S. F ++ S) flat_rows step_rows

  pub known_written : KnownWritten flats steps x k
  known_written = record {
    left_rows = same_rows k.left left1 w.left_size ∙ sl;
    right_rows = same_rows k.right right1 w.right_size ∙ sr;
    flat_rows = flat_rows;
    known_rows = known_rows;
  }
