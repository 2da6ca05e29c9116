-- The rows one after the other.
use mathlib.Core.Bool.{true}
use mathlib.Core.Path.{◌≡◌}
use Rattle.ipl.specs.Lists.{all, tabulate}
use Rattle.ipl.specs.Range.{implication_in_range}
use Rattle.prover.specs.State.{implication_row}
use Rattle.prover.proofs.Implications.in_range.Given as goal

abbrev pub invariant-loop-i : goal.invariant-loop-i
invariant-loop-i l = all (implication_in_range l.n) (tabulate (implication_row l.self) l.i) ≡ true
