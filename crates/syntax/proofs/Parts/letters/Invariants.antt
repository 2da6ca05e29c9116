-- The letters of the rows before the next.
use Rattle.syntax.proofs.LetterCount.{Counted}
use Rattle.syntax.proofs.Parts.letters.Given as goal

abbrev pub invariant-loop-part : goal.invariant-loop-part
invariant-loop-part l = Counted l.part-items l.letters l.part-index
