use Rattle.sat.proofs.Table.{taken_less}
use Rattle.sat.proofs.learning.activity.raise.Goals as goal

pub loop-rest-smaller : goal.loop-rest-smaller
loop-rest-smaller c =
    taken_less _ _ _ _ c.is_empty.ensures c.loop-rest-test.true-raw c.highest-x.ensures c.without-rest.ensures
