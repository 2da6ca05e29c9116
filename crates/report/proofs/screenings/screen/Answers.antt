-- What stands in the draft is handed over.
use Rattle.std.proofs.Common.{rules}
use Rattle.text.proofs.Appending.{started}
use Rattle.report.proofs.Screened.{screen_given}
use Rattle.report.proofs.screenings.screen.Goals as goal

pub returns : goal.returns
returns c =
    let empty = c.new-draft.ensures in
    let stands = started empty.same empty.empty c.write.ensures (search rules) c.len-n.ensures in
    screen_given _ c.screen.result c.screen.ensures (c.hand_over.ensures _ stands.begins stands.size)
