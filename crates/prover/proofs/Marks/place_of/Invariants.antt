-- No row before `i` has the number.
use mathlib.Core.Path.{◌≡◌}
use Rattle.ipl.specs.Lists.{tabulate}
use Rattle.ipl.specs.Marks.{place_of}
use Rattle.prover.specs.State.{mark_row}
use Rattle.prover.proofs.Marks.place_of.Given as goal

abbrev pub invariant-loop-i : goal.invariant-loop-i
invariant-loop-i l = place_of l.number (tabulate (mark_row l.self) l.i) ≡ l.i
