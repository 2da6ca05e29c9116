-- Each turn takes one atom; the best one stays a byte.
use Rattle.std.proofs.Common.{◌^◌, ◌<◌}
use Rattle.atoms.specs.Words.{num}
use Rattle.sat.proofs.learning.activity.busiest.Given as goal

abbrev pub invariant-loop-rest : goal.invariant-loop-rest
invariant-loop-rest l = l.best < 2 ^ 8

abbrev pub decreases-loop-rest : goal.decreases-loop-rest
decreases-loop-rest l = num l.rest
