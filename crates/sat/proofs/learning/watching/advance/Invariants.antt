-- Each turn visits one place.
use Rattle.std.proofs.Common.{◌≡◌, length}
use Rattle.sat.proofs.learning.watching.advance.Given as goal

abbrev pub invariant-loop : goal.invariant-loop
invariant-loop l = length l.notes ≡ length l.initial.notes
