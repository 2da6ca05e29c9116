-- The atoms before entry i, and those of the entries that are left.
use Rattle.clausify.proofs.Loops.{Given}
use Rattle.clausify.proofs.naming.names_of.Given as goal

abbrev pub invariant-loop-i : goal.invariant-loop-i
invariant-loop-i l = Given l.parts l.atoms l.next l.i
