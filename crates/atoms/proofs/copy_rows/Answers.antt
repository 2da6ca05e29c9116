use mathlib.Core.Path.{refl, subst}
use native.Mathlib.Decide.{dec_lt}
use native.Mathlib.Omega.{arith}
use Prim.Native.Nat.{ℕ}
use Rattle.atoms.specs.Words.{row_count, RowsSet}
use Rattle.atoms.proofs.Machine.{rows_none, rows_more, rows_end}
use Rattle.atoms.proofs.copy_rows.Goals as goal

pub loop-i-init : goal.loop-i-init
loop-i-init c = rows_none _ _ _

pub loop-i-preserved : goal.loop-i-preserved
loop-i-preserved c = rows_more _ _ _ _ _ _ _ _ refl c.row.ensures c.loop-i.invariant c.set_row.ensures

-- All rows are passed, or the table is full.
pub returns : goal.returns
unfolding row_count
returns c =
    let s = c.args in
    let room = c.saturating_sub-room.ensures in
    elim (dec_lt c.loop-i.i s.count) [
      | yes h ↦ rows_end _ _ _ _ _ _ (omega arith) (omega (arith, room, c.rows.ensures, c.min-i-end.ensures, c.loop-i.invariant.size)) c.loop-i.invariant
      | no h ↦ subst (λ (i : ℕ). RowsSet s.to.now s.at s.from.now i c.loop-i.to) (omega (arith, c.min-i-end.ensures)) c.loop-i.invariant
    ]
