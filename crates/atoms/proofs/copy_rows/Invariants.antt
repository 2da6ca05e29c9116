-- The rows passed are written.
use Rattle.atoms.specs.Words.{RowsSet}
use Rattle.atoms.proofs.copy_rows.Given as goal

abbrev pub invariant-loop-i : goal.invariant-loop-i
invariant-loop-i l = RowsSet l.initial.to l.at l.from l.i l.to
