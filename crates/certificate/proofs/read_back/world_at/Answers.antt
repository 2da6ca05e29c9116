-- A world there, past the end, or of no countermodel.
use mathlib.Core.Path.{◌∙◌, subst}
use Rattle.atoms.proofs.Machine.{num_empty}
use Rattle.certificate.specs.Checked.{SheetRead}
use Rattle.certificate.proofs.RowsBack.{unlaid_world, world_past, world_other, world_there}
use Rattle.certificate.proofs.read_back.world_at.Goals as goal

pub returns-in-Some : goal.returns-in-Some
returns-in-Some c = c.world.ensures ∙ world_there _ _ c.in-Some.ensures _ c.if-sheet.true c.if-i-sheet.true

pub returns-in_default : goal.returns-in_default
returns-in_default c = num_empty ∙ world_past _ _ c.in-Some.ensures _ c.if-sheet.true c.if-i-sheet.false

pub returns-in_default-2 : goal.returns-in_default-2
returns-in_default-2 c = num_empty ∙ world_other _ _ c.in-Some.ensures _ c.if-sheet.false

pub returns-in_default-3 : goal.returns-in_default-3
returns-in_default-3 c = num_empty ∙ unlaid_world _ (subst (SheetRead _) c.in_default.is c.read.ensures) _
