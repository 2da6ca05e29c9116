-- From the whole downward, the first that passes; 0 where no other does.
use Rattle.std.proofs.Common.{arith, refl, sym, ◌∙◌}
use Rattle.fork.specs.Algebra.{implication}
use Rattle.fork_table.proofs.Implications.{number_here, number_below_lem, number_last}
use Rattle.fork_table.proofs.implication.Goals as goal

pub loop-c-init : goal.loop-c-init
unfolding implication
loop-c-init c = refl

pub returns-then-is_implication : goal.returns-then-is_implication
returns-then-is_implication c = number_here _ _ (sym c.if-is_implication.ensures) ∙ c.loop-c.invariant

pub loop-c-preserved : goal.loop-c-preserved
loop-c-preserved c = sym (number_below_lem _ _ (omega arith) (sym c.if-is_implication.ensures)) ∙ c.loop-c.invariant

pub returns : goal.returns
returns c = number_last _ _ (omega arith) ∙ c.loop-c.invariant
