use Rattle.std.proofs.Common.{sym, ◌∙◌, arith}
use Rattle.atoms.specs.Words.{num}
use Rattle.atoms.proofs.Members.{without_lowest_less}
use Rattle.sat.proofs.learning.room.size.Goals as goal

pub loop-rest-smaller : goal.loop-rest-smaller
loop-rest-smaller c =
    omega (arith, c.without_lowest-rest.ensures, without_lowest_less (num c.loop-rest.rest) (sym c.is_empty.ensures ∙ c.loop-rest-test.true))
