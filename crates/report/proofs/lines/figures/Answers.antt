-- One figure after the other.
use Rattle.text.specs.Text.{ascii}
use Rattle.report.specs.Report.{figures}
use Rattle.text.proofs.Appending.{both}
use Rattle.report.proofs.lines.figures.Goals as goal

pub returns : goal.returns
unfolding figures ascii
returns c =
    let atoms = rw c.from.ensures at c.figure.ensures in
    let questions = rw c.from-2.ensures at c.figure-2.ensures in
    both (both (both atoms questions) c.figure-3.ensures) c.word.ensures
