-- The answer, and what is printed of it with its author's count.
use mathlib.Core.Path.{refl, ap}
use Rattle.prover.specs.Told.{told, answered}
use Rattle.prover.specs.declared.Work.{Work}
use Rattle.text.proofs.Appending.{same_text}
use Rattle.report.specs.Report.{report_with}
use Rattle.script.proofs.answers.ask.Goals as goal

pub returns : goal.returns
returns c =
    let v = c.ask-verdict.result in
    let s = c.ask-verdict.new.self in
    (_, (answered v s, c.ask-verdict.ensures.asked, refl, refl), same_text (ap (λ (w : Work). report_with w.questions (told v) s) c.work_of-questions.ensures) c.write.ensures)
