-- A store inside the table, and none past its end.
use Rattle.atoms.specs.Words.{num}
use Rattle.atoms.proofs.Machine.{set_row, keep_row}
use Rattle.atoms.proofs.set_row.Goals as goal

pub returns-then-i-table : goal.returns-then-i-table
unfolding num
returns-then-i-table c = set_row c.args.table.now c.args.i c.args.s.bits c.if-i-table.true

pub returns-else-i-table : goal.returns-else-i-table
unfolding num
returns-else-i-table c = keep_row c.args.table.now c.args.i c.args.s.bits c.if-i-table.false
