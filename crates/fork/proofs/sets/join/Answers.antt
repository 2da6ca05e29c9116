-- By the tests on the way.
use borrow.Author.Tests.{ne_eqb}
use Rattle.fork.specs.Algebra.{join}
use Rattle.fork.proofs.sets.join.Goals as goal

pub returns-then-a-eq-WHOLE : goal.returns-then-a-eq-WHOLE
unfolding join
returns-then-a-eq-WHOLE c = rw c.if-a-eq-WHOLE.true

pub returns-then-b-eq-WHOLE : goal.returns-then-b-eq-WHOLE
unfolding join
returns-then-b-eq-WHOLE c = rw (ne_eqb _ _ c.if-a-eq-WHOLE.false, c.if-b-eq-WHOLE.true)

pub returns : goal.returns
unfolding join
returns c = rw (ne_eqb _ _ c.if-a-eq-WHOLE.false, ne_eqb _ _ c.if-b-eq-WHOLE.false)
