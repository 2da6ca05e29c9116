-- The length told; where none is, that of what is printed.
use mathlib.Core.Path.{refl, sym, ap, ◌∙◌}
use lib.ListN.{length}
use Rattle.report.proofs.Fitting.{report_given}
use Rattle.zestanchor.proofs.Sheet.{told_certified, untold_certified}
use Rattle.zestanchor.proofs.Tasks.{printed_size}
use Rattle.zestanchor.proofs.certified_length.Goals as goal

pub returns-in-Ok : goal.returns-in-Ok
returns-in-Ok c = told_certified _ _ c.settle-settled.ensures _ (sym c.length_told.ensures ∙ c.in-Ok.is)

pub returns-in-Err : goal.returns-in-Err
returns-in-Err c =
    let settled = c.settle-settled.ensures in
    let refused = sym c.length_told.ensures ∙ c.in-Err.is in
    printed_size _ _ _ _ refl (report_given _ _ settled c.report.ensures) ∙ ap length (untold_certified _ _ settled _ refused)
