-- One entry after the other.
use Rattle.std.proofs.Common.{arith}
use Rattle.text.specs.Text.{ascii}
use Rattle.text.proofs.Appending.{nothing}
use Rattle.fork_table.specs.Table.{entries}
use Rattle.fork_table.proofs.Texts.{next_entry, row_end}
use Rattle.fork_table.proofs.write_row.Goals as goal

pub loop-b-init : goal.loop-b-init
unfolding entries
loop-b-init c = nothing _

pub loop-b-preserved : goal.loop-b-preserved
unfolding ascii
loop-b-preserved c = next_entry _ c.loop-b.b c.loop-b.invariant c.write_entry.ensures

pub returns : goal.returns
unfolding ascii
returns c = row_end _ c.loop-b.b (omega arith) c.loop-b.invariant c.write_entry-2.ensures
