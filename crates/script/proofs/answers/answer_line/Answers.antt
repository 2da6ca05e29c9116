-- What stands in the draft stands in the output.
use Rattle.std.proofs.Common.{rules}
use Rattle.text.proofs.Appending.{started}
use Rattle.script.proofs.answers.answer_line.Goals as goal

pub returns : goal.returns
returns c =
    let a = c.make_call.ensures in
    let empty = c.new-draft.ensures in
    record { line = a.line; does = (a.does.0, a.does.1, started empty.same empty.empty a.does.2 (search rules) c.len.ensures); of = a.of }
