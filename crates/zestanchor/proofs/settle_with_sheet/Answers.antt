-- The report and the sheet of the settled text.
use mathlib.Core.Path.{sym, subst}
use Rattle.text.specs.Output.{Gives}
use Rattle.report.proofs.Fitting.{report_given}
use Rattle.zestanchor.proofs.Sheet.{sheet_given}
use Rattle.zestanchor.proofs.settle_with_sheet.Goals as goal

pub returns : goal.returns
returns c =
    let given = sheet_given _ c.settle-settled.result c.settle-settled.ensures _ _ _ c.write.ensures in (
      report_given _ c.settle-settled.result c.settle-settled.ensures c.report.ensures,
      subst (Gives _ _ _) (sym c.unwrap_or.ensures) given,
    )
