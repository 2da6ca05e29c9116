-- The empty set.
use lib.Pow.{pow_pos}
use Rattle.atoms.specs.Sets.{limit}
use Rattle.atoms.proofs.Machine.{num_empty}
use Rattle.script.proofs.numbers.AtomSetNumber.zero.Goals as goal

pub returns : goal.returns
returns c = (num_empty, pow_pos limit)
