-- No clause passed is looked for.
use Rattle.sat.specs.Rows.{Missed}
use Rattle.sat.proofs.clauses.Clauses.first.Given as goal

abbrev pub invariant-loop-i : goal.invariant-loop-i
invariant-loop-i g l = Missed (goal.F-post g l.is_it) l.self l.from l.i
