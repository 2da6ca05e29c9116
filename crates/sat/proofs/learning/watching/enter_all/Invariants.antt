-- Each turn enters one row.
use Rattle.std.proofs.Common.{◌≡◌, length}
use Rattle.sat.proofs.learning.watching.enter_all.Given as goal

abbrev pub invariant-loop-c : goal.invariant-loop-c
invariant-loop-c l = length l.notes ≡ length l.initial.notes
