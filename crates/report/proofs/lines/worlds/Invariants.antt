-- The lines of the rows before i.
use Rattle.atoms.specs.Words.{row_of}
use Rattle.ipl.specs.Lists.{tabulate}
use Rattle.certificate.specs.Format.{each}
use Rattle.text.specs.Output.{Appends}
use Rattle.report.specs.Report.{world_line}
use Rattle.report.proofs.lines.worlds.Given as goal

abbrev pub invariant-loop-i : goal.invariant-loop-i
invariant-loop-i l = Appends (each world_line (tabulate (row_of l.table.sets) l.i)) l.initial.draft l.draft
