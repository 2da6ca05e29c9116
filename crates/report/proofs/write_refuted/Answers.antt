-- The verdict, the figures, and a line for each world.
use Rattle.text.specs.Text.{ascii}
use Rattle.prover.specs.State.{step_row}
use Rattle.ipl.proofs.Lists.{tabulate_length}
use Rattle.report.specs.Report.{refuted_report}
use Rattle.text.proofs.Appending.{both}
use Rattle.report.proofs.write_refuted.Goals as goal

pub returns : goal.returns
unfolding refuted_report ascii
returns c =
    let s = c.args.s.now.steps in
    rw (tabulate_length (step_row s) s.count) (both (both c.word.ensures c.figures.ensures) c.worlds.ensures)
