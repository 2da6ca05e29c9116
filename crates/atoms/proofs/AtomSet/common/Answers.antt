-- `a & b` is the intersection of sets.
use borrow.Author.Rules.{rules}
use Rattle.atoms.specs.Words.{num}
use Rattle.atoms.proofs.AtomSet.common.Goals as goal

pub returns : goal.returns
unfolding num
returns c = search rules
