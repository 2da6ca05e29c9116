use native.Mathlib.Omega.{arith}
use Prim.Native.Nat.{◌+◌, ◌*◌, ◌≤◌}
use lib.ListN.{length}
use Rattle.certify.proofs.Bodies.{rows_none, row_within, rows_next}
use Rattle.certify.proofs.rows.put_table.Given.{Over}
use Rattle.certify.proofs.rows.put_table.Goals as goal

within : (g : Over) (c : goal.After-ROW_BYTES g) → c.args.at + c.ROW_BYTES.result * c.loop-i.i + g.T.Table.ROW_BYTES ≤ length c.args.buffer.now
within g c = row_within _ _ _ _ c.count-i-end.result _ _ c.ROW_BYTES.ensures c.count-i-end.ensures c.loop-i-test.true c.requires.0

pub loop-i-init : goal.loop-i-init
loop-i-init g c = rows_none _ _ _

pub put_row-requires : goal.put_row-requires
put_row-requires g c = (omega (arith, c.count-i-end.ensures, c.loop-i-test.true), c.requires.1, omega (arith, within g c, c.loop-i.auto.buffer))

pub loop-i-preserved : goal.loop-i-preserved
loop-i-preserved g c =
    rows_next (g.T.Table.row_at c.args.t.now) g.T.Table.ROW_BYTES (g.met.T.Table.wide c.args.t.now) _ _ _ _ c.loop-i.i
    (g.T.Table.count c.args.t.now) (omega (arith, c.count-i-end.ensures, c.loop-i-test.true)) c.requires.0 c.loop-i.invariant (rw c.ROW_BYTES.ensures at c.put_row.ensures)
