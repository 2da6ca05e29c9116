-- The word, the number of each set, the end of the line.
use Rattle.std.proofs.Common.{ap}
use Rattle.certificate.specs.Format.{each}
use Rattle.text.specs.Text.{ascii}
use Rattle.text.proofs.Appending.{same_text, both}
use Rattle.report.specs.Screening.{set_figure, falls_line}
use Rattle.report.proofs.screenings.write_falls.Goals as goal

pub returns : goal.returns
unfolding falls_line ascii
returns c =
    both (both c.word.ensures (same_text (ap (each set_figure) c.as_slice.ensures) c.figures.ensures)) c.word-2.ensures
