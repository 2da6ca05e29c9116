-- The lines of the rows before i.
use Rattle.prover.specs.State.{step_row}
use Rattle.ipl.specs.Lists.{tabulate}
use Rattle.certificate.specs.Format.{each}
use Rattle.text.specs.Output.{Appends}
use Rattle.report.specs.Report.{step_line}
use Rattle.report.proofs.lines.steps.Given as goal

abbrev pub invariant-loop-i : goal.invariant-loop-i
invariant-loop-i l = Appends (each step_line (tabulate (step_row l.table) l.i)) l.initial.draft l.draft
