-- The implication number, then A.
use Rattle.text.specs.Text.{ascii}
use Rattle.report.specs.Report.{step_line}
use Rattle.text.proofs.Appending.{both}
use Rattle.report.proofs.lines.step.Goals as goal

pub returns : goal.returns
unfolding step_line ascii
returns c = both (both (rw c.from.ensures at c.figure.ensures) c.labelled.ensures) c.word.ensures
