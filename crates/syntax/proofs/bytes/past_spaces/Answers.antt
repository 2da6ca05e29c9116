use mathlib.Core.Path.{sym, ◌∙◌}
use Rattle.syntax.proofs.Class.{rest_blank}
use Rattle.syntax.proofs.bytes.past_spaces.Goals as goal

pub loop-i-preserved : goal.loop-i-preserved
loop-i-preserved c = sym (rest_blank _ _ c.loop-i-test.true c.if-s-i-ne32.false) ∙ c.loop-i.invariant
