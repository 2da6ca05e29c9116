-- What is printed of a judged certificate (document 01: an answer sheet).
use Rattle.std.specs.Prelude.{Bool, true, false, List, ◌++◌, ◌⊎◌, ◌≡◌, ℕ, ◌≤◌, eqb, length, Option, Result, Ok, Err}
use Rattle.certificate.specs.Certificate as certificate
use Rattle.certificate.specs.Certificate.{Claim, Judgement}
use Rattle.certificate.specs.Faults.{number_of, place_of}
use Rattle.certificate.specs.Checked.{place_or_zero}
use Rattle.certificate.specs.declared.Contents.{Contents}
use Rattle.certificate.specs.declared.fault.Fault.{Fault}
use Rattle.certificate.specs.Format.{longest_accepted}
use Rattle.certificate.specs.Judge.{judge}
use Rattle.text.specs.Text.{ascii, refusal}
use Rattle.text.specs.Output.{Gives, Reported}

-- The refusal of a sheet has a place where its number is 16.
abbrev pub sheet_refusal : ℕ → ℕ → List ℕ
sheet_refusal number place = refusal (eqb number 16) number place

-- An accepted sheet, by whether it holds worlds.
unfoldable pub accepted_line : Bool → List ℕ
accepted_line true = ascii "accepted refuted\n"
accepted_line false = ascii "accepted valid\n"

abbrev pub accepted_claim : Claim → List ℕ
accepted_claim (certificate.valid S) = accepted_line false
accepted_claim (certificate.refuted W) = accepted_line true

-- The report of a judgement of bytes, and of the value that stands for it.
abbrev pub check_report : Judgement → List ℕ
check_report (certificate.accepted p c) = accepted_claim c
check_report (certificate.refused number place) = sheet_refusal number place

-- By what a refusal of any type tells.
abbrev pub check_report_with : {E : Type 0} → (E → ℕ) → (E → Option ℕ) → Result Contents E → List ℕ
check_report_with number place (Ok k) = accepted_line k.refuting
check_report_with number place (Err e) = sheet_refusal (number e) (place_or_zero (place e))

abbrev pub check_report_of : Result Contents Fault → List ℕ
check_report_of = check_report_with number_of place_of

-- Of a certificate that begins with s, and `more` bytes after it.
pub record Judged (s : List ℕ) (more : ℕ) (entry exit : List ℕ) (r : ℕ) : Type 0 where
  -- What is printed of all of it, whatever those bytes are, where s has room for every certificate in range.
  pub given : (rest : List ℕ) → length rest ≡ more → (more ≡ 0) ⊎ (longest_accepted ≤ length s) → Gives (check_report (judge (s ++ rest))) entry exit r
  -- In any case the report of one answer, or nothing.
  pub answer : Result Contents Fault
  pub reported : Reported (check_report_of answer) entry exit r
