-- Each turn empties one list.
use Rattle.std.proofs.Common.{◌≡◌, length}
use Rattle.sat.proofs.learning.watching.clear.Given as goal

abbrev pub invariant-loop-i : goal.invariant-loop-i
invariant-loop-i l = length l.notes ≡ length l.initial.notes
