use Rattle.std.proofs.Common.{arith}
use Rattle.sat.proofs.Table.{taken_less}
use Rattle.sat.proofs.learning.activity.busiest.Goals as goal
use Rattle.sat.proofs.learning.activity.busiest.Goals.{else-most-number, then-most-number}

pub loop-rest-smaller : goal.loop-rest-smaller
loop-rest-smaller c =
    taken_less _ _ _ _ c.is_empty.ensures c.loop-rest-test.true-raw c.highest-x.ensures c.without-rest.ensures

pub loop-rest-preserved : goal.loop-rest-preserved
loop-rest-preserved c = elim c.if-most-number.branch [ then-most-number w ↦ omega arith | else-most-number w ↦ omega arith ]
