-- The report of the settled text.
use Rattle.report.proofs.Fitting.{report_given}
use Rattle.zestanchor.proofs.settle.Goals as goal

pub returns : goal.returns
returns c =
    report_given _ c.settle.result c.settle.ensures c.report.ensures
