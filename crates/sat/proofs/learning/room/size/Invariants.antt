-- Each turn takes one atom.
use Rattle.atoms.specs.Words.{num}
use Rattle.sat.proofs.learning.room.size.Given as goal

abbrev pub invariant-loop-rest : goal.invariant-loop-rest
invariant-loop-rest l = Unit {0}

abbrev pub decreases-loop-rest : goal.decreases-loop-rest
decreases-loop-rest l = num l.rest
