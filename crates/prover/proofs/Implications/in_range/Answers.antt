-- The count, then the rows.
use mathlib.Core.Path.{refl, sym, ◌∙◌}
use native.Mathlib.Omega.{arith}
use Rattle.ipl.specs.Lists.{all, tabulate}
use Rattle.ipl.proofs.Lists.{all_next}
use Rattle.ipl.specs.Range.{implication_in_range}
use Rattle.prover.specs.State.{implication_row}
use Rattle.prover.specs.InRange.{implications_in_range}
use Rattle.prover.proofs.Ranges.{too_many, row_fails, rows_hold}
use Rattle.prover.proofs.Implications.in_range.Goals as goal

pub returns-then-self-gt-IMPLICATIONS : goal.returns-then-self-gt-IMPLICATIONS
unfolding implications_in_range
returns-then-self-gt-IMPLICATIONS c = too_many (implication_in_range c.args.n) (implication_row c.args.self.now) c.args.self.now.count _ c.if-self-gt-IMPLICATIONS.true

pub loop-i-init : goal.loop-i-init
unfolding all tabulate
loop-i-init c = refl

pub returns-then-not-implication_in_range : goal.returns-then-not-implication_in_range
unfolding implications_in_range
returns-then-not-implication_in_range c =
    row_fails (implication_in_range c.args.n) (implication_row c.args.self.now) c.args.self.now.count _ c.loop-i.i (omega arith)
    (sym (c.implication_in_range.ensures) ∙ c.if-not-implication_in_range.true)

pub loop-i-preserved : goal.loop-i-preserved
loop-i-preserved c =
    all_next (implication_in_range c.args.n) (implication_row c.args.self.now) c.loop-i.i c.loop-i.invariant
    (sym (c.implication_in_range.ensures) ∙ c.if-not-implication_in_range.false)

pub returns : goal.returns
unfolding implications_in_range
returns c =
    rows_hold (implication_in_range c.args.n) (implication_row c.args.self.now) c.args.self.now.count _ c.if-self-gt-IMPLICATIONS.false
    c.loop-i.i (omega arith) (omega arith) c.loop-i.invariant
