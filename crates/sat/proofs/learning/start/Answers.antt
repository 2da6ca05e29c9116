-- The rows stay, those behind them follow; and so it is after the end.
use Rattle.sat.proofs.Rows.{explored_learned}
use Rattle.sat.proofs.learning.start.Goals as goal

pub returns : goal.returns
returns c = explored_learned _ _ _ _ c.explore-end.ensures c.close.ensures
