use Prim.Native.Nat.{ℕ, ◌+◌, ◌<◌}
use mathlib.Core.Bool.{true}
use mathlib.Core.List.{List}
use mathlib.Core.Path.{◌≡◌, ap, ◌∙◌}
use native.Mathlib.Decide.{dec_lt}
use lib.Dec.{eqb}
use Rattle.fork.specs.Fork.{whole}
use Rattle.fork.specs.Cells.{cell_at}
use Rattle.fork.proofs.Filling.{cell_inside}
use borrow.Author.Rules.{rules}
use borrow.Author.Tests.{eq-eqb, ne_eqb}
use native.Mathlib.Omega.{arith}
use Rattle.fork.proofs.rows.first_below.Goals as goal

one_more : (C : List ℕ) (i j : ℕ) → ((m : ℕ) → m < j → eqb (cell_at C i m) whole ≡ true) → cell_at C i j ≡ whole
    → (m : ℕ) → m < j + 1 → eqb (cell_at C i m) whole ≡ true
one_more C i j before here m h = elim (dec_lt m j) [
  | yes l ↦ before m l
  | no l ↦ let last : m ≡ j = omega arith in eq-eqb _ _ (ap (cell_at C i) last ∙ here)
]

pub loop-column-init : goal.loop-column-init
loop-column-init c = λ j h. absurd (omega arith)

pub bounds-values-row : goal.bounds-values-row
bounds-values-row c = omega (arith, cell_inside c.args.row c.loop-column.column (search rules) (search rules))

pub returns-then-values-row-ne-WHOLE : goal.returns-then-values-row-ne-WHOLE
returns-then-values-row-ne-WHOLE c = record { inside = c.loop-column-test.true; before = c.loop-column.invariant; fails = ne_eqb _ _ c.if-values-row-ne-WHOLE.true }

pub loop-column-preserved : goal.loop-column-preserved
loop-column-preserved c = one_more c.args.values.now c.args.row _ c.loop-column.invariant c.if-values-row-ne-WHOLE.false
