-- The lines of a piece, one after the other; what they print is held.
use Rattle.std.proofs.Common.{◌+◌, ◌≤◌, length, take}
use Rattle.script.specs.Run.{output_room, Prints}
use Rattle.session.proofs.answer_lines.Given as goal

abbrev pub invariant-loop-line : goal.invariant-loop-line
invariant-loop-line l = record {
  since : length l.rest ≤ length l.piece;
  room : l.held + output_room ≤ length l.output;
  prints : Prints (take l.held l.output) l.piece l.fn.script.session l.fn.script.number l.fn.line l.fn.script.pending l.rest l.script.session l.script.number l.line l.script.pending;
}

abbrev pub decreases-loop-line : goal.decreases-loop-line
decreases-loop-line l = length l.rest
