-- A row there, or past the end.
use mathlib.Core.Path.{◌∙◌, subst}
use Rattle.certificate.specs.Checked.{SheetRead}
use Rattle.certificate.proofs.RowsBack.{unlaid_implication, implication_past, implication_there}
use Rattle.certificate.proofs.read_back.implication_at.Goals as goal

pub returns-in-Some : goal.returns-in-Some
returns-in-Some c = c.implication.ensures ∙ implication_there _ _ c.in-Some.ensures _ c.if-i-sheet.true

pub returns-in_default : goal.returns-in_default
returns-in_default c = implication_past _ _ c.in-Some.ensures _ c.if-i-sheet.false

pub returns-in_default-2 : goal.returns-in_default-2
returns-in_default-2 c = unlaid_implication _ (subst (SheetRead _) c.in_default.is c.read.ensures) _
