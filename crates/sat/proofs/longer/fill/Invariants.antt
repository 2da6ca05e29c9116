-- The table is copied, then each row kept.
use Rattle.std.proofs.Common.{◌+◌, ◌*◌, ◌^◌, ◌<◌, ◌≤◌}
use Rattle.atoms.specs.Words.{row_count}
use Rattle.sat.specs.Learning.{Filled}
use Rattle.sat.proofs.longer.fill.Given as goal

abbrev pub invariant-loop-i : goal.invariant-loop-i
invariant-loop-i l =
    Filled l.t.left.now l.t.right.now l.count l.kept l.rows l.long.left l.long.right (l.count + l.i)
    × (l.more ≤ l.rows) × (2 * l.more < 2 ^ 64) × (l.count + l.more ≤ row_count l.long.left) × (l.count + l.more ≤ row_count l.long.right)
