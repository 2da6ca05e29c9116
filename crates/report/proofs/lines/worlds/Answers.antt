use Rattle.std.proofs.Common.{ap, sym, arith}
use borrow.Author.Tests.{eqb-true}
use Rattle.atoms.specs.Words.{row_of}
use Rattle.ipl.specs.Lists.{tabulate}
use Rattle.certificate.specs.Format.{each}
use Rattle.text.proofs.Appending.{same_text, nothing}
use Rattle.report.specs.Report.{world_line}
use Rattle.report.proofs.Rows.{next_line, lines_full}
use Rattle.report.proofs.lines.worlds.Goals as goal

pub loop-i-init : goal.loop-i-init
unfolding each tabulate
loop-i-init c = nothing _

pub loop-i-preserved : goal.loop-i-preserved
loop-i-preserved c =
    next_line world_line (row_of c.args.table.now.sets) c.loop-i.i c.loop-i.invariant (same_text (ap world_line c.row.ensures) c.world.ensures)

pub returns-then-is_full : goal.returns-then-is_full
returns-then-is_full c = lines_full world_line (row_of c.args.table.now.sets) c.loop-i.i _ (omega arith) (eqb-true _ _ (sym c.if-is_full.ensures)) c.loop-i.invariant
