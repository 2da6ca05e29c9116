-- `1 << i` for an atom, and the empty set past the atoms.
use Rattle.atoms.specs.Words.{num}
use Rattle.atoms.proofs.Machine.{single_word, single_past}
use Rattle.atoms.proofs.AtomSet.single.Goals as goal

pub returns-then-i-lt-LIMIT : goal.returns-then-i-lt-LIMIT
unfolding num
returns-then-i-lt-LIMIT c = single_word c.args.i c.if-i-lt-LIMIT.true

pub returns-else-i-lt-LIMIT : goal.returns-else-i-lt-LIMIT
unfolding num
returns-else-i-lt-LIMIT c = single_past c.args.i c.if-i-lt-LIMIT.false
