-- The rows one after the other.
use mathlib.Core.Bool.{true}
use mathlib.Core.Path.{◌≡◌}
use Rattle.ipl.specs.Lists.{all, tabulate}
use Rattle.ipl.specs.Range.{flat_in_range}
use Rattle.sat.specs.Table.{clause_at}
use Rattle.prover.proofs.Flats.in_range.Given as goal

abbrev pub invariant-loop-i : goal.invariant-loop-i
invariant-loop-i l = all (flat_in_range l.n) (tabulate (clause_at l.self.left l.self.right) l.i) ≡ true
