-- The layout, then the bodies.
use mathlib.Core.Path.{subst}
use Rattle.std.proofs.lemmas.Result.{err_from_is_err_and}
use Rattle.certificate.specs.Checked.{SheetRead}
use Rattle.certificate.proofs.Judging.{unlaid, laid_sheet, fault_given}
use Rattle.certificate.proofs.check.Goals as goal

pub returns-in_err-sheet : goal.returns-in_err-sheet
returns-in_err-sheet c =
    let p = err_from_is_err_and c.from_residual.result c.from_residual.ensures.1 in
    let none = c.in_err-sheet.ensures.ok_part in
    rw (p.1, p.2, fault_given _ _ _ none c.in_err-sheet.ensures.value) (unlaid _ (subst (SheetRead _) none c.read.ensures))

pub returns : goal.returns
returns c = laid_sheet _ _ (subst (SheetRead _) c.in_ok-sheet.ensures.ok_part c.read.ensures) c.check_bodies.result c.check_bodies.ensures
