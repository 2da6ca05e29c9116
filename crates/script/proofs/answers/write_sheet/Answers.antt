-- By the answer of the writer.
use mathlib.Core.Path.{refl, sym}
use lib.Seq.{length-take-le}
use Rattle.text.proofs.Appending.{same_text}
use Rattle.script.proofs.SheetLines.{sheet_given, sheet_refused}
use native.Mathlib.Omega.{arith}
use Rattle.script.proofs.answers.write_sheet.Goals as goal

pub slice_bounds-sheet-end : goal.slice_bounds-sheet-end
slice_bounds-sheet-end c = omega (arith, (sheet_given _ _ _ _ c.write.ensures refl _ c.in-Ok.is).1)

pub slice_bounds-write_digits-end : goal.slice_bounds-write_digits-end
slice_bounds-write_digits-end c =
    sym (length-take-le _ _ (omega (arith, (sheet_given _ _ _ _ c.write.ensures refl _ c.in-Ok.is).1)))

pub returns-in-Ok : goal.returns-in-Ok
returns-in-Ok c =
    same_text (sheet_given _ _ _ _ c.write.ensures refl _ c.in-Ok.is).0 c.write_digits.ensures

pub returns-in-Err : goal.returns-in-Err
returns-in-Err c =
    same_text (sheet_refused _ _ _ _ c.write.ensures refl _ c.in-Err.is) (rw c.number.ensures at c.refusal.ensures)
