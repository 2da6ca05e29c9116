-- The count, then the rows.
use mathlib.Core.Path.{refl, sym, ap, ◌∙◌}
use Prim.Native.Nat.{ℕ}
use native.Mathlib.Omega.{arith}
use Rattle.ipl.specs.Lists.{all, tabulate}
use Rattle.ipl.proofs.Lists.{all_next}
use Rattle.ipl.specs.Search.{step_in_range}
use Rattle.prover.specs.State.{byte_at, step_row}
use Rattle.prover.specs.InRange.{steps_in_range}
use Rattle.prover.proofs.Ranges.{too_many, row_fails, rows_hold}
use Rattle.prover.proofs.Steps.in_range.Goals as goal

pub returns-then-self-gt-STEPS : goal.returns-then-self-gt-STEPS
unfolding steps_in_range
returns-then-self-gt-STEPS c = too_many (step_in_range c.args.n c.args.implications) (step_row c.args.self.now) c.args.self.now.count _ c.if-self-gt-STEPS.true

pub loop-i-init : goal.loop-i-init
unfolding all tabulate
loop-i-init c = refl

pub returns-then-not-step_in_range : goal.returns-then-not-step_in_range
unfolding steps_in_range
returns-then-not-step_in_range c =
    let row = ap (λ (A : ℕ). step_in_range c.args.n c.args.implications (record { number = byte_at c.args.self.now.numbers c.loop-i.i; assumed = A })) c.row.ensures in
    row_fails (step_in_range c.args.n c.args.implications) (step_row c.args.self.now) c.args.self.now.count _ c.loop-i.i (omega arith)
    (sym (c.step_in_range.ensures ∙ row) ∙ c.if-not-step_in_range.true)

pub loop-i-preserved : goal.loop-i-preserved
loop-i-preserved c =
    let row = ap (λ (A : ℕ). step_in_range c.args.n c.args.implications (record { number = byte_at c.args.self.now.numbers c.loop-i.i; assumed = A })) c.row.ensures in
    all_next (step_in_range c.args.n c.args.implications) (step_row c.args.self.now) c.loop-i.i c.loop-i.invariant
    (sym (c.step_in_range.ensures ∙ row) ∙ c.if-not-step_in_range.false)

pub returns : goal.returns
unfolding steps_in_range
returns c =
    rows_hold (step_in_range c.args.n c.args.implications) (step_row c.args.self.now) c.args.self.now.count _ c.if-self-gt-STEPS.false
    c.loop-i.i (omega arith) (omega arith) c.loop-i.invariant
