-- The scan up to `i` fits.
use Rattle.syntax.proofs.Fault.{ScannedTo}
use Rattle.syntax.proofs.scan.fault.Given as goal

abbrev pub invariant-loop-i : goal.invariant-loop-i
invariant-loop-i l = ScannedTo l.s l.operand l.levels l.i
