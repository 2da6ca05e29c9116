-- One part of the piece after the other.
use Rattle.std.proofs.Common.{List, ℕ, length}
use Rattle.script.specs.Run.{Prints}
use Rattle.session.proofs.answer.Given as goal

abbrev pub invariant-loop-rest : goal.invariant-loop-rest
invariant-loop-rest g l = record {
  prints : (first : List ℕ) × Prints first l.piece l.fn.script.session l.fn.script.number l.fn.line l.fn.script.pending l.rest l.script.session l.script.number l.line l.script.pending;
}

abbrev pub decreases-loop-rest : goal.decreases-loop-rest
decreases-loop-rest g l = length l.rest
