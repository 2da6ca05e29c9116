-- The count, then the rows.
use mathlib.Core.Path.{refl, sym, ◌∙◌}
use native.Mathlib.Omega.{arith}
use Rattle.ipl.specs.Lists.{all, tabulate}
use Rattle.ipl.proofs.Lists.{all_next}
use Rattle.prover.specs.State.{mark_row}
use Rattle.prover.specs.InRange.{mark_in_range}
use Rattle.prover.specs.InRange.{marks_in_range}
use Rattle.prover.proofs.Ranges.{too_many, row_fails, rows_hold}
use Rattle.prover.proofs.Marks.in_range.Goals as goal

pub returns-then-self-gt-MARKS : goal.returns-then-self-gt-MARKS
unfolding marks_in_range
returns-then-self-gt-MARKS c = too_many (mark_in_range c.args.flats c.args.implications c.args.steps) (mark_row c.args.self.now) c.args.self.now.count _ c.if-self-gt-MARKS.true

pub loop-i-init : goal.loop-i-init
unfolding all tabulate
loop-i-init c = refl

pub returns-then-not-in_range : goal.returns-then-not-in_range
unfolding marks_in_range
returns-then-not-in_range c =
    row_fails (mark_in_range c.args.flats c.args.implications c.args.steps) (mark_row c.args.self.now) c.args.self.now.count _ c.loop-i.i (omega arith)
    (sym (c.in_range.ensures) ∙ c.if-not-in_range.true)

pub loop-i-preserved : goal.loop-i-preserved
loop-i-preserved c =
    all_next (mark_in_range c.args.flats c.args.implications c.args.steps) (mark_row c.args.self.now) c.loop-i.i c.loop-i.invariant
    (sym (c.in_range.ensures) ∙ c.if-not-in_range.false)

pub returns : goal.returns
unfolding marks_in_range
returns c =
    rows_hold (mark_in_range c.args.flats c.args.implications c.args.steps) (mark_row c.args.self.now) c.args.self.now.count _ c.if-self-gt-MARKS.false
    c.loop-i.i (omega arith) (omega arith) c.loop-i.invariant
