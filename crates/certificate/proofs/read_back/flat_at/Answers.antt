-- A row there, or past the end.
use mathlib.Core.Path.{ap₂, ◌∙◌, subst}
use Rattle.atoms.proofs.Machine.{num_empty}
use Rattle.ipl.specs.Clause.{Flat}
use Rattle.certificate.specs.Checked.{SheetRead}
use Rattle.certificate.proofs.RowsBack.{unlaid_flat, flat_past, flat_there}
use Rattle.certificate.proofs.read_back.flat_at.Goals as goal

pub returns-in-Some : goal.returns-in-Some
returns-in-Some c = c.flat.ensures ∙ flat_there _ _ c.in-Some.ensures _ c.if-i-sheet.true

pub returns-in_default : goal.returns-in_default
returns-in_default c =
    ap₂ {C = Flat} (λ x y. record { left = x; right = y }) num_empty num_empty ∙ flat_past _ _ c.in-Some.ensures _ c.if-i-sheet.false

pub returns-in_default-2 : goal.returns-in_default-2
returns-in_default-2 c =
    ap₂ {C = Flat} (λ x y. record { left = x; right = y }) num_empty num_empty ∙ unlaid_flat _ (subst (SheetRead _) c.in_default.is c.read.ensures) _
