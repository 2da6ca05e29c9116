-- Each turn takes one atom, and what follows stays so.
use Rattle.sat.specs.Learning.{Follows}
use Rattle.atoms.specs.Words.{num}
use Rattle.sat.proofs.learning.resolution.shorter.Given as goal

abbrev pub invariant-loop-rest : goal.invariant-loop-rest
invariant-loop-rest l = Follows l.t l.initial.c.clause → Follows l.t l.c.clause

abbrev pub decreases-loop-rest : goal.decreases-loop-rest
decreases-loop-rest l = num l.rest
