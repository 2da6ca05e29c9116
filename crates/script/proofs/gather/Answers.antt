-- Up to the first end of a line.
use Rattle.std.proofs.Common.{◌+◌, ◌-◌, length, take_all, drop, length-drop, arith}
use Rattle.script.proofs.Gathering.{gathered_all, gathered_line}
use Rattle.script.proofs.gather.Goals as goal

pub returns-then-end-piece : goal.returns-then-end-piece
returns-then-end-piece c = gathered_all _ _ c.find-end.ensures.first _ _ _ _ c.join.ensures (omega arith)

pub returns : goal.returns
returns c =
    let piece = c.args.piece.now in
    let next = c.find-end.result + 1 in
    gathered_line _ _ c.find-end.ensures.first _ _ _ _ c.join.ensures (omega arith) _ (take_all (length piece - next) (drop next piece) (omega (arith, length-drop next piece)))
