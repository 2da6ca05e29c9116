-- What the code prints of a certificate is what the definitions print, from its bytes.
use mathlib.Core.Bool.{Bool, true, false}
use mathlib.Core.List.{List}
use mathlib.Core.Path.{◌≡◌, refl, ap, ◌∙◌}
use Prim.Native.Nat.{ℕ}
use Rattle.std.proofs.Common.{Result, Ok, Err}
use Rattle.certificate.specs.Judge.{judge}
use Rattle.certificate.specs.Format.{claim_start}
use Rattle.certificate.specs.Layout.{claim_in}
use Rattle.certificate.specs.Checked.{judgement_of}
use Rattle.certificate.specs.declared.Contents.{Contents}
use Rattle.certificate.specs.declared.fault.Fault.{Fault}
use Rattle.judgement.specs.Report.{accepted_line, accepted_claim, check_report, check_report_of}

claim_line : (s : List ℕ) (at : ℕ) (refuting : Bool) (rows : ℕ) → accepted_line refuting ≡ accepted_claim (claim_in s at refuting rows)
unfolding claim_in
claim_line s at true rows = refl
claim_line s at false rows = refl

pub check_report_printed : (s : List ℕ) (k : Result Contents Fault) → judgement_of s k ≡ judge s → check_report_of k ≡ check_report (judge s)
check_report_printed s k e = of_value k ∙ ap check_report e
  where
    of_value : (k : Result Contents Fault) → check_report_of k ≡ check_report (judgement_of s k)
    of_value (Ok k) = claim_line s (claim_start k.flats k.implications) k.refuting k.rows
    of_value (Err f) = refl
