-- No row before `i` is the part.
use Rattle.syntax.specs.Parts.{entry_of, held}
use Rattle.syntax.proofs.Held.{NotBefore}
use Rattle.syntax.proofs.Parts.find.Given as goal

abbrev pub invariant-loop-i : goal.invariant-loop-i
invariant-loop-i l = NotBefore (entry_of l.part) (held l.self) l.i
