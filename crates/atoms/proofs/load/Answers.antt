-- The number in the bytes is the set.
use Rattle.atoms.specs.Words.{num}
use Rattle.atoms.proofs.load.Goals as goal

pub returns : goal.returns
unfolding num
returns c = c.number.ensures.is
