-- The cells before the column hold the whole.
use Prim.Native.Nat.{ℕ, ◌<◌}
use mathlib.Core.Bool.{true}
use mathlib.Core.Path.{◌≡◌}
use lib.Dec.{eqb}
use Rattle.fork.specs.Fork.{whole}
use Rattle.fork.specs.Cells.{cell_at}
use Rattle.fork.proofs.rows.first_below.Given as goal

abbrev pub invariant-loop-column : goal.invariant-loop-column
invariant-loop-column l = (j : ℕ) → j < l.column → eqb (cell_at l.values l.row j) whole ≡ true
