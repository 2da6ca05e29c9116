use Rattle.std.proofs.Common.{subst, arith}
use Rattle.sat.specs.Learning.{Filled}
use Rattle.sat.proofs.Rows.{set_rows, copied_rows, filled_own, filled_more}
use Rattle.sat.proofs.longer.fill.Goals as goal

pub loop-i-init : goal.loop-i-init
loop-i-init c = (
  subst (Filled _ _ _ _ _ _ _) (omega arith)
      (filled_own _ _ _ _ _ _ _ _ _ c.copy_rows.ensures c.copy_rows-2.ensures (omega arith) (omega arith)),
  omega arith,
  omega arith,
  omega (arith, copied_rows _ _ _ _ _ c.copy_rows.ensures),
  omega (arith, copied_rows _ _ _ _ _ c.copy_rows-2.ensures),
)

pub loop-i-preserved : goal.loop-i-preserved
loop-i-preserved c =
    let inv = c.loop-i.invariant in (
      subst (Filled _ _ _ _ _ _ _) (omega arith)
          (filled_more _ _ _ _ _ _ _ _ _ _ _ _ inv.0 (omega arith) c.set_row.ensures c.set_row-in-loop-i.ensures c.row.ensures c.row-in-loop-i.ensures
          (omega (arith, inv.3)) (omega (arith, inv.4))),
      inv.1,
      inv.2,
      omega (arith, inv.3, set_rows _ _ _ _ c.set_row.ensures),
      omega (arith, inv.4, set_rows _ _ _ _ c.set_row-in-loop-i.ensures),
    )
