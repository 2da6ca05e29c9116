-- The rows before i are written.
use Rattle.fork.proofs.Values.{FilledTo}
use Rattle.fork.proofs.rows.Formula.fill.Given as goal

abbrev pub invariant-loop-i : goal.invariant-loop-i
invariant-loop-i l = FilledTo l.self.parts.now l.number l.values l.place l.i
