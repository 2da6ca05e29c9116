-- The rows one after the other.
use mathlib.Core.Bool.{true}
use mathlib.Core.Path.{◌≡◌}
use Rattle.ipl.specs.Lists.{all, tabulate}
use Rattle.prover.specs.State.{mark_row}
use Rattle.prover.specs.InRange.{mark_in_range}
use Rattle.prover.proofs.Marks.in_range.Given as goal

abbrev pub invariant-loop-i : goal.invariant-loop-i
invariant-loop-i l = all (mark_in_range l.flats l.implications l.steps) (tabulate (mark_row l.self) l.i) ≡ true
