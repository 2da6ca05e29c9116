-- Demand 2 for the sheet of a text's verdict.
use Rattle.std.specs.Prelude.{List, ◌≡◌, ℕ}
use Rattle.std.proofs.Math.Option.{some}
use Rattle.ipl.specs.Book.{answer}
use Rattle.ipl.specs.Formula.{Formula}
use Rattle.syntax.specs.Judge.{judge, accepted}
use Rattle.clausify.specs.Naming.{text_book, goal_of}
use Rattle.certificate.specs.Certificate as certificate
use Rattle.certificate.specs.Certificate.{Claim}
use Rattle.certificate.specs.Judge as sheets
use Rattle.certificate.specs.Written.{problem_of_book, claim_of_verdict}
use Rattle.report.specs.Printed.{sheet}

-- Of every text with a verdict: its sheet "is accepted and reads back as the problem and answer it came from".
abbrev pub SheetAccepted : Type 0
SheetAccepted = (s : List ℕ) (f : Formula) (c : Claim) → judge s ≡ accepted f → claim_of_verdict (text_book f) (answer (text_book f) (goal_of f)) ≡ some c
    → sheets.judge (sheet s) ≡ certificate.accepted (problem_of_book (text_book f) (goal_of f)) c
