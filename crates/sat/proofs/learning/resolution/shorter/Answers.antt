use Rattle.sat.proofs.Table.{taken_less}
use Rattle.sat.proofs.learning.resolution.shorter.Goals as goal

pub loop-rest-smaller : goal.loop-rest-smaller
loop-rest-smaller c =
    taken_less _ _ _ _ c.is_empty.ensures c.loop-rest-test.true-raw c.highest-x.ensures c.without-rest.ensures

pub loop-rest-init : goal.loop-rest-init
loop-rest-init c f = f

pub loop-rest-preserved : goal.loop-rest-preserved
loop-rest-preserved c f = c.without_redundant-c.ensures (c.loop-rest.invariant f)
