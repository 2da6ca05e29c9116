-- What stands in the draft is handed over.
use Rattle.std.proofs.Common.{rules}
use Rattle.text.proofs.Appending.{started}
use Rattle.judgement.proofs.Fitting.{judged}
use Rattle.judgement.proofs.judge.Goals as goal

pub returns : goal.returns
returns c =
    let empty = c.new-draft.ensures in
    let stands = started empty.same empty.empty c.write.ensures (search rules) c.len-n.ensures in
    judged c.check_beginning.result c.check_beginning.ensures (c.hand_over.ensures _ stands.begins stands.size)
