-- Every set before d that is to lie within c does.
use Rattle.fork_table.proofs.Implications.{Passed}
use Rattle.fork_table.proofs.is_implication.Given as goal

abbrev pub invariant-loop-d : goal.invariant-loop-d
invariant-loop-d l = Passed l.a l.b l.c l.d
