-- The verdict, the figures, and a line for each step.
use Rattle.text.specs.Text.{ascii}
use Rattle.prover.specs.State.{step_row}
use Rattle.ipl.proofs.Lists.{tabulate_length}
use Rattle.report.specs.Report.{valid_report}
use Rattle.text.proofs.Appending.{both}
use Rattle.report.proofs.write_valid.Goals as goal

pub returns : goal.returns
unfolding valid_report ascii
returns c =
    let s = c.args.s.now.steps in
    rw (tabulate_length (step_row s) s.count) (both (both c.word.ensures c.figures.ensures) c.steps.ensures)
