use Rattle.std.proofs.Common.{ℕ}
use mathlib.Core.Path.{sym, ap₂}
use native.Mathlib.Omega.{arith}
use borrow.Author.Tests.{eqb-true}
use Rattle.ipl.specs.Lists.{tabulate}
use Rattle.prover.specs.State.{step_row}
use Rattle.certificate.specs.Format.{each}
use Rattle.text.proofs.Appending.{same_text, nothing}
use Rattle.report.specs.Report.{step_line}
use Rattle.report.proofs.Rows.{next_line, lines_full}
use Rattle.report.proofs.lines.steps.Goals as goal

pub loop-i-init : goal.loop-i-init
unfolding each tabulate
loop-i-init c = nothing _

pub loop-i-preserved : goal.loop-i-preserved
loop-i-preserved c =
    let line = ap₂ (λ (n a : ℕ). step_line (record { number = n; assumed = a })) c.byte_at-number.ensures c.row.ensures in
    next_line step_line (step_row c.args.table.now) c.loop-i.i c.loop-i.invariant (same_text line c.step.ensures)

pub returns-then-is_full : goal.returns-then-is_full
returns-then-is_full c = lines_full step_line (step_row c.args.table.now) c.loop-i.i _ (omega arith) (eqb-true _ _ (sym c.if-is_full.ensures)) c.loop-i.invariant
