-- The rows one after the other.
use mathlib.Core.Bool.{true}
use mathlib.Core.Path.{◌≡◌}
use Rattle.ipl.specs.Lists.{all, tabulate}
use Rattle.ipl.specs.Range.{set_in_range}
use Rattle.atoms.specs.Words.{row_of}
use Rattle.prover.proofs.Worlds.in_range.Given as goal

abbrev pub invariant-loop-i : goal.invariant-loop-i
invariant-loop-i l = all (set_in_range l.n) (tabulate (row_of l.self.sets) l.i) ≡ true
