-- The numbers of the sets before this one.
use Rattle.std.proofs.Common.{take}
use Rattle.certificate.specs.Format.{each}
use Rattle.text.specs.Output.{Appends}
use Rattle.report.specs.Screening.{set_figure}
use Rattle.report.proofs.screenings.figures.Given as goal

abbrev pub invariant-loop-set : goal.invariant-loop-set
invariant-loop-set l = Appends (each set_figure (take l.set-index l.sets)) l.initial.draft l.draft
