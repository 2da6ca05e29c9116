-- 2 ^ n - 1 below the limit, and the whole word past it.
use lib.Pow.{pow_pos}
use Rattle.atoms.specs.Words.{num}
use Rattle.atoms.proofs.Machine.{one_shl, below_word, below_past}
use Rattle.atoms.proofs.AtomSet.below.Goals as goal

pub overflow_sub-result : goal.overflow_sub-result
overflow_sub-result c = rw (one_shl c.args.n c.if-n-lt-LIMIT.true) (pow_pos c.args.n)

pub returns-then-n-lt-LIMIT : goal.returns-then-n-lt-LIMIT
unfolding num
returns-then-n-lt-LIMIT c = below_word c.args.n c.if-n-lt-LIMIT.true

pub returns-else-n-lt-LIMIT : goal.returns-else-n-lt-LIMIT
unfolding num
returns-else-n-lt-LIMIT c = below_past c.args.n c.if-n-lt-LIMIT.false
