use Rattle.sat.proofs.Table.{passed_more}
use Rattle.sat.proofs.clauses.Clauses.first.Goals as goal

pub loop-i-preserved : goal.loop-i-preserved
loop-i-preserved g c = passed_more _ _ _ c.loop-i.invariant (c.row.result, c.row.ensures, c.if-is_it.ensures)
