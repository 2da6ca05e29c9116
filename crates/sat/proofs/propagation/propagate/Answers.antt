use Rattle.std.specs.Prelude.{Some}
use Rattle.std.proofs.Common.{subst, lt_of_lt_of_le}
use Rattle.sat.specs.declared.propagation.Reached.{Reached}
use Rattle.sat.specs.Rows.{EachHolds}
use Rattle.sat.specs.Knowledge.{Learns, Propagates}
use Rattle.sat.proofs.Knowledge.{grown_refl, grown_trans, differ, room_falls, room_kept}
use Rattle.sat.proofs.propagation.propagate.Goals as goal

-- What the clauses that fail add, and then the sweep.
raised-else-eq : (c : goal.Else-eq) → Learns (EachHolds c.args.t) c.loop-r.q c.in-Open.r
raised-else-eq c = subst (λ (e : Reached). Propagates (EachHolds c.args.t) c.loop-r.q (Some e)) c.in-Open.is c.in_ok-r.ensures

raised-then-eq : (c : goal.Then-eq) → Learns (EachHolds c.args.t) c.loop-r.q c.in-Open.r
raised-then-eq c = subst (λ (e : Reached). Propagates (EachHolds c.args.t) c.loop-r.q (Some e)) c.in-Open.is c.in_ok-r.ensures

pub loop-r-init : goal.loop-r-init
loop-r-init c = grown_refl _ _ _ c.args.p.fair

pub loop-r-preserved : goal.loop-r-preserved
loop-r-preserved c = grown_trans _ (grown_trans _ c.loop-r.invariant (raised-else-eq c)) c.in_ok-s-in-Open.ensures

pub loop-r-smaller : goal.loop-r-smaller
loop-r-smaller c =
    let r = raised-else-eq c in
    let s : Learns (EachHolds c.args.t) c.in-Open.r c.in_ok-s-in-Open.s = c.in_ok-s-in-Open.ensures in
    lt_of_lt_of_le
    (room_falls _ _ _ _ c.in-Open.r.fair s.more_has s.more_lacks (differ c.in_ok-s-in-Open.s c.in-Open.r _ c.eq.ensures c.if-eq.false))
    (room_kept _ _ _ _ r.more_has r.more_lacks)

pub returns-then-eq : goal.returns-then-eq
returns-then-eq c = grown_trans _ (grown_trans _ c.loop-r.invariant (raised-then-eq c)) c.in_ok-s-in-Open.ensures
