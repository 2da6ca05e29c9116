-- The implications before entry i, and those of the entries that are left.
use Rattle.clausify.proofs.Loops.{ImplicationsWritten}
use Rattle.clausify.proofs.implication_clauses.implications_of.Given as goal

abbrev pub invariant-loop-i : goal.invariant-loop-i
invariant-loop-i l = ImplicationsWritten l.parts l.t l.i
