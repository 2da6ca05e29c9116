-- A step there, past the end, or of no derivation.
use mathlib.Core.Path.{ap, ◌∙◌, subst}
use Rattle.atoms.proofs.Machine.{num_empty}
use Rattle.ipl.specs.Search.{Step}
use Rattle.certificate.specs.Checked.{SheetRead}
use Rattle.certificate.proofs.RowsBack.{unlaid_step, step_past, step_other, step_there}
use Rattle.certificate.proofs.read_back.step_at.Goals as goal

pub returns-in-Some : goal.returns-in-Some
returns-in-Some c = c.step.ensures ∙ step_there _ _ c.in-Some.ensures _ c.if-not-sheet.true c.if-i-sheet.true

pub returns-in_default : goal.returns-in_default
returns-in_default c = ap {B = Step} (λ y. record { number = 0; assumed = y }) num_empty ∙ step_past _ _ c.in-Some.ensures _ c.if-not-sheet.true c.if-i-sheet.false

pub returns-in_default-2 : goal.returns-in_default-2
returns-in_default-2 c = ap {B = Step} (λ y. record { number = 0; assumed = y }) num_empty ∙ step_other _ _ c.in-Some.ensures _ c.if-not-sheet.false

pub returns-in_default-3 : goal.returns-in_default-3
returns-in_default-3 c = ap {B = Step} (λ y. record { number = 0; assumed = y }) num_empty ∙ unlaid_step _ (subst (SheetRead _) c.in_default.is c.read.ensures) _
