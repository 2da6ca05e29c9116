-- Each row kept is a row of the longer table.
use Rattle.std.proofs.Common.{◌≡◌, length}
use Rattle.atoms.specs.Words.{row_count}
use Rattle.sat.specs.Learning.{Kept}
use Rattle.sat.proofs.longer.keep.Given as goal

abbrev pub invariant-loop-i : goal.invariant-loop-i
invariant-loop-i l =
    (length l.kept ≡ length l.initial.kept) × Kept l.t.left l.t.right l.t.total l.kept l.i × (row_count l.kept ≡ row_count l.initial.kept)
