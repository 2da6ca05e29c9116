-- No row is kept.
use Rattle.sat.proofs.Rows.{kept_none}
use Rattle.sat.proofs.ask.Goals as goal

pub returns : goal.returns
returns c = (c.ask_keeping.ensures (kept_none _ _ _ _)).0
