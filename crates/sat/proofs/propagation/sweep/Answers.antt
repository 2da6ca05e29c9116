use Rattle.std.proofs.Common.{arith}
use Rattle.sat.proofs.Table.{row_holds}
use Rattle.sat.proofs.Knowledge.{grown_refl, grown_trans, grown_weaken}
use Rattle.sat.proofs.propagation.sweep.Goals as goal

pub loop-i-init : goal.loop-i-init
loop-i-init c = grown_refl _ _ _ c.args.p.fair

pub returns-in_err-q : goal.returns-in_err-q
returns-in_err-q c =
    let k = c.row.ensures in
    rw c.from_residual.ensures
    (λ m e h. c.in_err-q.ensures m (c.loop-i.invariant.keeps m e h) (row_holds _ _ m _ _ _ k.left_is k.right_is _ (omega arith) h))

pub loop-i-smaller : goal.loop-i-smaller
loop-i-smaller c = omega (arith, c.next_telling-i-in-loop-i.ensures.after)

pub loop-i-preserved : goal.loop-i-preserved
loop-i-preserved c =
    let k = c.row.ensures in
    grown_trans _ c.loop-i.invariant
    (grown_weaken _ _ (λ m h. row_holds _ _ m _ _ _ k.left_is k.right_is _ (omega arith) h) c.in_ok-q.ensures)
