-- The records before the place `i` are answered.
use Rattle.prover.proofs.Underway.{Answering}
use Rattle.prover.proofs.Session.page.Given as goal

abbrev pub invariant-loop-i : goal.invariant-loop-i
invariant-loop-i l = Answering l.fn.self l.author l.fn.records l.i l.self l.models l.records
