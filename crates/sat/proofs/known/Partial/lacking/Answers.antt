-- What joins is apart from what is had.
use Rattle.sat.proofs.Table.{apart_of}
use Rattle.sat.proofs.Knowledge.{with_lacked}
use Rattle.sat.proofs.known.Partial.lacking.Goals as goal

pub invariant_of-result : goal.invariant_of-result
invariant_of-result c = record { fair = with_lacked _ _ _ _ c.args.self.fair c.bounded.ensures (apart_of _ _ c.requires) c.join.ensures }
