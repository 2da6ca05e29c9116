-- The entries before b.
use Rattle.text.specs.Output.{Appends}
use Rattle.fork_table.specs.Table.{entries}
use Rattle.fork_table.proofs.write_row.Given as goal

abbrev pub invariant-loop-b : goal.invariant-loop-b
invariant-loop-b l = Appends (entries l.a l.b) l.fn.draft l.draft
