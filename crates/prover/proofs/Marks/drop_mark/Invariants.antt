-- The rows kept so far are those of other numbers up to `i`.
use Rattle.prover.proofs.MarkRows.{Kept}
use Rattle.prover.proofs.Marks.drop_mark.Given as goal

abbrev pub invariant-loop-i : goal.invariant-loop-i
invariant-loop-i l = Kept l.number l.before l.self l.i
