-- What is read back of a certificate, row by row. Bytes that break the layout, and rows past the end, give an empty row.
use Rattle.std.specs.Prelude.{cond, List, ℕ, get_or}
use Rattle.atoms.specs.Words.{num}
use Rattle.ipl.specs.Clause.{bot, Flat, Implication}
use Rattle.ipl.specs.Search.{Step}
use Rattle.certificate.specs.Certificate.{Claim, valid, refuted}
use Rattle.certificate.specs.Layout.{laid_out, problem_of, claim_of}
use Rattle.certificate.specs.declared.FlatRow.{FlatRow}
use Rattle.certificate.specs.declared.ImplicationRow.{ImplicationRow}
use Rattle.certificate.specs.declared.StepRow.{StepRow}

-- The code's rows.
abbrev pub flat_of : FlatRow → Flat
flat_of r = record { left = num r.left; right = num r.right }

abbrev pub implication_of : ImplicationRow → Implication
implication_of r = record { a = r.a; b = r.b; c = r.c }

abbrev pub step_of : StepRow → Step
step_of r = record { number = r.number; assumed = num r.assumed }

abbrev pub no_flat : Flat
no_flat = record { left = 0; right = 0 }

abbrev pub no_implication : Implication
no_implication = record { a = 0; b = 0; c = 0 }

abbrev pub no_step : Step
no_step = record { number = 0; assumed = 0 }

-- The problem.
unfoldable pub atoms_read : List ℕ → ℕ
atoms_read s = cond (laid_out s) (problem_of s).n 0

unfoldable pub goal_read : List ℕ → ℕ
goal_read s = cond (laid_out s) (problem_of s).goal bot

unfoldable pub flat_read : List ℕ → ℕ → Flat
flat_read s k = cond (laid_out s) (get_or (problem_of s).flats k no_flat) no_flat

unfoldable pub implication_read : List ℕ → ℕ → Implication
implication_read s k = cond (laid_out s) (get_or (problem_of s).implications k no_implication) no_implication

-- The claim.
unfoldable pub step_of_claim : Claim → ℕ → Step
step_of_claim (valid S) k = get_or S k no_step
step_of_claim (refuted W) k = no_step

unfoldable pub world_of_claim : Claim → ℕ → ℕ
world_of_claim (valid S) k = 0
world_of_claim (refuted W) k = get_or W k 0

unfoldable pub step_read : List ℕ → ℕ → Step
step_read s k = cond (laid_out s) (step_of_claim (claim_of s) k) no_step

unfoldable pub world_read : List ℕ → ℕ → ℕ
world_read s k = cond (laid_out s) (world_of_claim (claim_of s) k) 0
