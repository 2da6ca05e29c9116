-- The last answer lies inside the output.
use Rattle.std.proofs.Common.{arith, length-take}
use Rattle.script.proofs.Performing.{answer_inside}
use Rattle.session.proofs.end.Goals as goal

pub slice_bounds-write-end : goal.slice_bounds-write-end
slice_bounds-write-end g c = omega (arith, answer_inside _ c.answer_line-n.ensures)

pub slice_bounds-write-end-2 : goal.slice_bounds-write-end-2
slice_bounds-write-end-2 g c =
    let inside = answer_inside _ c.answer_line-n.ensures in
    simp length-take (omega (arith, inside))
