use mathlib.Core.Path.{◌∙◌}
use Rattle.syntax.proofs.Depth.{bool_cond, shallow_start, shallow_next, found_deep}
use native.Mathlib.Omega.{arith}
use Rattle.syntax.proofs.parentheses.too_deep.Goals as goal

pub loop-b-init : goal.loop-b-init
loop-b-init c = shallow_start _

pub returns-then-closed-opened : goal.returns-then-closed-opened
returns-then-closed-opened c = found_deep _ _ _ _ c.loop-b.invariant c.loop-b-test.true _ _ (c.from-opened.ensures ∙ bool_cond _) (c.from-closed.ensures ∙ bool_cond _) c.if-closed-opened.true

pub loop-b-preserved : goal.loop-b-preserved
loop-b-preserved c =
    shallow_next _ _ _ _ c.loop-b.invariant c.loop-b-test.true _ _ (c.from-opened.ensures ∙ bool_cond _) (c.from-closed.ensures ∙ bool_cond _) (λ h. omega (arith, c.if-closed-opened.false))
