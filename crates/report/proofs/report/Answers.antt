-- What stands in the draft is handed over.
use Rattle.std.proofs.Common.{rules, ap}
use Rattle.prover.specs.Told.{told}
use Rattle.prover.specs.declared.Work.{Work}
use Rattle.text.proofs.Appending.{same_text, started}
use Rattle.report.specs.Report.{report_with}
use Rattle.report.proofs.report.Goals as goal

pub returns : goal.returns
returns c =
    let settled = c.args.settled.now in
    let written = same_text (ap (λ (w : Work). report_with w.questions (told settled.verdict) settled.session) c.work_of-questions.ensures) c.write.ensures in
    let empty = c.new-draft.ensures in
    let stands = started empty.same empty.empty written (search rules) c.len-n.ensures in
    c.hand_over.ensures _ stands.begins stands.size
