-- The one clause and the other are resolved, or the other and the one.
use Rattle.sat.proofs.Resolution.{resolve}
use Rattle.sat.proofs.learning.resolution.resolved.Goals as goal

pub returns-then-meets : goal.returns-then-meets
returns-then-meets c m hk hb =
    resolve m _ _ _ _ _ _ _ _ _ _ c.single-x.ensures c.without.ensures c.without-then-meets.ensures c.join.ensures c.join-then-meets.ensures hb hk

pub returns-else-meets : goal.returns-else-meets
returns-else-meets c m hk hb =
    resolve m _ _ _ _ _ _ _ _ _ _ c.single-x.ensures c.without-else-meets.ensures c.without-else-meets-2.ensures c.join-else-meets.ensures c.join-else-meets-2.ensures hk hb
