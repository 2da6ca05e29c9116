-- The row is passed over, or moved down.
use Rattle.std.proofs.Common.{refl}
use Rattle.sat.proofs.Rows.{moved_down}
use Rattle.sat.proofs.learning.room.pass.Goals as goal

pub returns : goal.returns
returns c = record {
  same_own = refl;
  same_total = refl;
  moved = λ own left right sl sr w.
      let k = c.row-k.ensures in
      moved_down _ _ _ _ _ _ _ _ _ _ _ _ w c.requires.1 sl sr k.left_is k.right_is c.set_row.ensures c.set_row-2.ensures;
}
