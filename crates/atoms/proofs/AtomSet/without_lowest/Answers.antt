-- `s & (s - 1)` leaves all but the lowest atom.
use borrow.Author.Rules.{rules}
use Rattle.atoms.specs.Words.{num}
use Rattle.atoms.proofs.AtomSet.without_lowest.Goals as goal

pub returns-then-self-eq0 : goal.returns-then-self-eq0
unfolding num
returns-then-self-eq0 c = search rules

pub returns : goal.returns
unfolding num
returns c = search rules
