-- The rows one after the other.
use mathlib.Core.Bool.{true}
use mathlib.Core.Path.{◌≡◌}
use Rattle.ipl.specs.Lists.{all, tabulate}
use Rattle.ipl.specs.Search.{step_in_range}
use Rattle.prover.specs.State.{step_row}
use Rattle.prover.proofs.Steps.in_range.Given as goal

abbrev pub invariant-loop-i : goal.invariant-loop-i
invariant-loop-i l = all (step_in_range l.n l.implications) (tabulate (step_row l.self) l.i) ≡ true
