-- What is printed of a text, and the sheet of its verdict: from its bytes alone, through the definitions.
use Rattle.std.specs.Prelude.{List, [], ℕ, ◌+◌, length}
use Rattle.std.proofs.Math.Option.{Option, none, some}
use Rattle.ipl.specs.Search.{Outcome, valid, refuted, refused, unfinished}
use Rattle.ipl.specs.Book.{Book, answer}
use Rattle.prover.specs.Work.{staying}
use Rattle.syntax.specs.Judge as judgement
use Rattle.syntax.specs.Judge.{Judgement, judge}
use Rattle.clausify.specs.Naming.{text_book, goal_of}
use Rattle.certificate.specs.Certificate.{Claim}
use Rattle.certificate.specs.Format.{encode}
use Rattle.certificate.specs.Written.{problem_of_book, claim_of_verdict}
use Rattle.report.specs.Report.{text_refusal, valid_report, refuted_report}

-- By the outcome of the search over n atoms, where so many questions of the author were counted before. The search always ends
-- (`search_ends` of `ipl`), so the last line is never met.
unfoldable pub printed_end : ℕ → ℕ → Outcome → List ℕ
printed_end n before (valid end) = valid_report n (staying (before + end.questions)) end.steps
printed_end n before (refuted end) = refuted_report n (staying (before + end.questions)) (length end.steps) end.worlds
printed_end n before (refused number) = text_refusal number 0
printed_end n before unfinished = []

unfoldable pub printed_as : Judgement → List ℕ
printed_as (judgement.refused number place) = text_refusal number place
printed_as (judgement.accepted t) = printed_end (text_book t).n 0 (answer (text_book t) (goal_of t))

unfoldable pub printed : List ℕ → List ℕ
printed s = printed_as (judge s)

-- ---- the sheet of a text's verdict; no bytes where there is none

unfoldable pub sheet_bytes : Book → ℕ → Option Claim → List ℕ
sheet_bytes k g none = []
sheet_bytes k g (some c) = encode (problem_of_book k g) c

unfoldable pub sheet_as : Judgement → List ℕ
sheet_as (judgement.refused number place) = []
sheet_as (judgement.accepted t) = sheet_bytes (text_book t) (goal_of t) (claim_of_verdict (text_book t) (answer (text_book t) (goal_of t)))

unfoldable pub sheet : List ℕ → List ℕ
sheet s = sheet_as (judge s)
