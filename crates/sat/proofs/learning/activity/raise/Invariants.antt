-- Each turn takes one atom.
use Rattle.std.proofs.Common.{◌≡◌, length}
use Rattle.atoms.specs.Words.{num}
use Rattle.sat.proofs.learning.activity.raise.Given as goal

abbrev pub invariant-loop-rest : goal.invariant-loop-rest
invariant-loop-rest l = length l.notes ≡ length l.initial.notes

abbrev pub decreases-loop-rest : goal.decreases-loop-rest
decreases-loop-rest l = num l.rest
