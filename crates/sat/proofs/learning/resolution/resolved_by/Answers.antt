-- The row follows from the rows, and so does the resolvent.
use Rattle.std.proofs.Common.{arith}
use Rattle.sat.proofs.Table.{row_holds}
use Rattle.sat.proofs.learning.resolution.resolved_by.Goals as goal

pub returns : goal.returns
returns c f m h =
    let k = c.row-by.ensures in
    c.resolved.ensures m (f m h) (row_holds _ _ m _ _ _ k.left_is k.right_is _ (omega arith) h)
