use Rattle.std.proofs.Common.{◌∙◌, arith}
use Rattle.sat.proofs.Rows.{set_rows, kept_more}
use Rattle.sat.proofs.Table.{row_holds}
use Rattle.sat.proofs.longer.keep.Goals as goal

pub loop-i-preserved : goal.loop-i-preserved
loop-i-preserved c = (
  c.set_row-in-loop-i.ensures.size ∙ c.set_row.ensures.size ∙ c.loop-i.invariant.0,
  kept_more _ _ _ _ _ _ _ _ _ c.loop-i.invariant.1 c.set_row.ensures c.set_row-in-loop-i.ensures
      (omega (arith, c.loop-i.invariant.2, c.rows.ensures))
      (λ m h. row_holds _ _ m _ _ _ c.row-k.ensures.left_is c.row-k.ensures.right_is _ (omega arith) h),
  set_rows _ _ _ _ c.set_row-in-loop-i.ensures ∙ set_rows _ _ _ _ c.set_row.ensures ∙ c.loop-i.invariant.2,
)
