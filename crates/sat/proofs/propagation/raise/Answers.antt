use Rattle.std.proofs.Common.{arith}
use Rattle.sat.proofs.Table.{row_holds}
use Rattle.sat.proofs.Knowledge.{grown_refl, grown_trans, grown_weaken, differ, room_falls}
use Rattle.sat.specs.Rows.{EachHolds}
use Rattle.sat.specs.Knowledge.{Learns}
use Rattle.sat.proofs.propagation.raise.Goals as goal

-- What the clause adds.
added : (c : goal.After-failing-i-in-loop-i) → Learns (EachHolds c.args.t) c.loop-i.q c.in_ok-s.s
added c =
    let k = c.row.ensures in
    grown_weaken _ _ (λ m h. row_holds _ _ m _ _ _ k.left_is k.right_is _ (omega arith) h) c.in_ok-s.ensures

pub loop-i-init : goal.loop-i-init
loop-i-init c = (grown_refl _ _ _ c.args.p.fair, c.failing-i.ensures)

pub returns-in_err-s : goal.returns-in_err-s
returns-in_err-s c =
    let k = c.row.ensures in
    rw c.from_residual.ensures
    (λ m e h. c.in_err-s.ensures m (c.loop-i.invariant.0.keeps m e h) (row_holds _ _ m _ _ _ k.left_is k.right_is _ (omega arith) h))

pub loop-i-smaller : goal.loop-i-smaller
loop-i-smaller c =
    let g = added c in
    room_falls _ _ _ _ c.loop-i.q.fair g.more_has g.more_lacks (differ c.in_ok-s.s c.loop-i.q _ c.eq.ensures c.if-eq.false)

pub loop-i-preserved : goal.loop-i-preserved
loop-i-preserved c = (
  grown_trans _ c.loop-i.invariant.0 (added c),
  c.failing-i-in-loop-i.ensures,
)
