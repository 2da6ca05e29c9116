-- The calls made so far are counted.
use Rattle.bench.proofs.Calls.{Counted}
use Rattle.bench.proofs.zestanchor_calls.Given as goal

abbrev pub invariant-loop-i : goal.invariant-loop-i
invariant-loop-i l = Counted l.calls l.sets l.s l.refused l.i
