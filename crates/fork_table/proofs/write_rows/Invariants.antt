-- The lines before a.
use Rattle.text.specs.Output.{Appends}
use Rattle.fork_table.specs.Table.{rows}
use Rattle.fork_table.proofs.write_rows.Given as goal

abbrev pub invariant-loop-a : goal.invariant-loop-a
invariant-loop-a l = Appends (rows l.a) l.fn.draft l.draft
