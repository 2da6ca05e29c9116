-- A row follows from the rows.
use Rattle.std.proofs.Common.{arith}
use Rattle.sat.proofs.Table.{row_holds}
use Rattle.sat.proofs.learning.ended.Goals as goal

pub returns-then-v-t : goal.returns-then-v-t
returns-then-v-t c m h = let k = c.row-clause.ensures in row_holds _ _ m _ _ _ k.left_is k.right_is _ (omega arith) h
