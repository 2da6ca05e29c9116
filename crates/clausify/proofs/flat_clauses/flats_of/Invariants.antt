-- The clauses before entry i, and those of the entries that are left.
use Rattle.clausify.proofs.Loops.{FlatsWritten}
use Rattle.clausify.proofs.flat_clauses.flats_of.Given as goal

abbrev pub invariant-loop-i : goal.invariant-loop-i
invariant-loop-i l = FlatsWritten l.parts l.flats l.i
