-- The bytes of the digits are judged.
use Rattle.std.proofs.Common.{length, ap, ◌∙◌}
use Rattle.certificate.specs.Judge.{judge}
use Rattle.text.proofs.Appending.{same_text}
use Rattle.judgement.specs.Report.{check_report}
use Rattle.judgement.proofs.Printed.{check_report_printed}
use Rattle.script.proofs.Digits.{all_bytes}
use Rattle.script.proofs.answers.check.Goals as goal

pub returns : goal.returns
returns c =
    let empty = c.new-sheet.ensures in
    let bytes = c.written.ensures ∙ all_bytes c.args.digits.now c.requires (ap length empty.same) empty.empty c.unhex.ensures in
    same_text (check_report_printed _ c.check.result c.check.ensures ∙ ap (λ l. check_report (judge l)) bytes) c.write.ensures
