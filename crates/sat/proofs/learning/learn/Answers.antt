use Rattle.std.proofs.Common.{refl}
use Rattle.sat.proofs.Rows.{learned_same, learned_trans}
use Rattle.sat.proofs.learning.learn.Goals as goal

pub loop-init : goal.loop-init
loop-init c = learned_same _ _ refl

pub loop-preserved : goal.loop-preserved
loop-preserved c = learned_trans _ _ _ c.loop.invariant c.start-s.ensures
