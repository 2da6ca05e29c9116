-- No beginning up to `i` is too deep.
use Rattle.syntax.proofs.Depth.{Shallow}
use Rattle.syntax.proofs.parentheses.too_deep.Given as goal

abbrev pub invariant-loop-b : goal.invariant-loop-b
invariant-loop-b l = Shallow l.s l.opened l.closed l.b-index
