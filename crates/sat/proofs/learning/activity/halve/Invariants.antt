-- Each turn halves one number.
use Rattle.std.proofs.Common.{◌≡◌, length}
use Rattle.sat.proofs.learning.activity.halve.Given as goal

abbrev pub invariant-loop-i : goal.invariant-loop-i
invariant-loop-i l = length l.notes ≡ length l.initial.notes
