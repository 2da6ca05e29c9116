-- The rows passed are put.
use mathlib.Core.Path.{◌≡◌}
use Rattle.atoms.specs.Bytes.{put_at}
use Rattle.certify.specs.Writing.{row_after_row}
use Rattle.certify.proofs.rows.put_table.Given as goal

abbrev pub invariant-loop-i : goal.invariant-loop-i
invariant-loop-i g l = l.buffer ≡ put_at l.initial.buffer l.at (row_after_row (g.T.Table.row_at l.t) l.i)
