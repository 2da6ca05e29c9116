use Rattle.std.proofs.Common.{sym, refl, ◌∙◌, arith}
use Rattle.sat.specs.Table.{all_hold}
use Rattle.sat.proofs.Table.{all_hold_next, all_hold_fails}
use Rattle.sat.proofs.propagation.each_holds.Goals as goal

pub loop-k-init : goal.loop-k-init
unfolding all_hold
loop-k-init c = refl

pub returns-then-not-holds : goal.returns-then-not-holds
returns-then-not-holds c =
    let k = c.row.ensures in
    sym (all_hold_fails _ _ _ c.loop-k.k _ _ k.left_is k.right_is _ (omega arith) (sym c.holds.ensures ∙ c.if-not-holds.true))

pub loop-k-preserved : goal.loop-k-preserved
loop-k-preserved c =
    let k = c.row.ensures in
    all_hold_next _ _ _ c.loop-k.k _ _ k.left_is k.right_is c.loop-k.invariant (sym c.holds.ensures ∙ c.if-not-holds.false)
