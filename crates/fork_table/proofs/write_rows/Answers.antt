-- One line after the other.
use Rattle.std.proofs.Common.{arith}
use Rattle.text.proofs.Appending.{nothing}
use Rattle.fork_table.specs.Table.{rows}
use Rattle.fork_table.proofs.Texts.{next_row, table_end}
use Rattle.fork_table.proofs.write_rows.Goals as goal

pub loop-a-init : goal.loop-a-init
unfolding rows
loop-a-init c = nothing _

pub loop-a-preserved : goal.loop-a-preserved
loop-a-preserved c = next_row c.loop-a.a c.loop-a.invariant c.write_row.ensures

pub returns : goal.returns
returns c = table_end c.loop-a.a (omega arith) c.loop-a.invariant
