-- The machine's count of leading zeros finds the highest atom.
use native.Mathlib.Omega.{arith}
use Rattle.atoms.specs.Words.{num}
use Rattle.atoms.proofs.Machine.{leading_small, highest_word, highest_none}
use Rattle.atoms.proofs.AtomSet.highest_number.Goals as goal

pub returns-then-self-eq0 : goal.returns-then-self-eq0
unfolding num
returns-then-self-eq0 c = highest_none c.args.self.bits c.if-self-eq0.true

pub overflow_sub-result : goal.overflow_sub-result
overflow_sub-result c = leading_small c.args.self.bits (omega (arith, c.if-self-eq0.false)) (omega arith)

pub returns : goal.returns
unfolding num
returns c = highest_word c.args.self.bits (omega (arith, c.if-self-eq0.false)) (omega arith)
