-- The set's number is put.
use Rattle.atoms.specs.Words.{num}
use Rattle.atoms.proofs.store.Goals as goal

pub returns : goal.returns
unfolding num
returns c = c.put.ensures
