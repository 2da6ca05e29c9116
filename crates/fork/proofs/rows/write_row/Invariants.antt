-- The cells before the column are written.
use Rattle.syntax.specs.Parts.{entry_of}
use Rattle.fork.proofs.Filling.{Begun}
use Rattle.fork.proofs.rows.write_row.Given as goal

abbrev pub invariant-loop-column : goal.invariant-loop-column
invariant-loop-column l = Begun l.initial.values l.row (entry_of l.part) l.number l.place l.values l.column
