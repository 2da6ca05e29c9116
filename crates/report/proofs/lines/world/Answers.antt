-- The world after its label.
use Rattle.text.specs.Text.{ascii}
use Rattle.report.specs.Report.{world_line}
use Rattle.text.proofs.Appending.{both}
use Rattle.report.proofs.lines.world.Goals as goal

pub returns : goal.returns
unfolding world_line ascii
returns c = both c.labelled.ensures c.word.ensures
