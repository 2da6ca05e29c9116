-- The count, then the rows.
use mathlib.Core.Path.{refl, sym, ap₂, ◌∙◌}
use Prim.Native.Nat.{ℕ}
use native.Mathlib.Omega.{arith}
use Rattle.ipl.specs.Lists.{all, tabulate}
use Rattle.ipl.proofs.Lists.{all_next}
use Rattle.ipl.specs.Range.{flat_in_range}
use Rattle.sat.specs.Table.{clause_at, clauses}
use Rattle.prover.specs.InRange.{flats_in_range}
use Rattle.prover.proofs.Ranges.{too_many, row_fails, rows_hold}
use Rattle.prover.proofs.Flats.in_range.Goals as goal

pub returns-then-self-gt-FLATS : goal.returns-then-self-gt-FLATS
unfolding flats_in_range clauses
returns-then-self-gt-FLATS c = too_many (flat_in_range c.args.n) (clause_at c.args.self.now.left c.args.self.now.right) c.args.self.now.count _ c.if-self-gt-FLATS.true

pub loop-i-init : goal.loop-i-init
unfolding all tabulate
loop-i-init c = refl

pub returns-then-not-flat_in_range : goal.returns-then-not-flat_in_range
unfolding flats_in_range clauses
returns-then-not-flat_in_range c =
    row_fails (flat_in_range c.args.n) (clause_at c.args.self.now.left c.args.self.now.right) c.args.self.now.count _ c.loop-i.i (omega arith)
    (sym (c.flat_in_range.ensures ∙ ap₂ (λ (x y : ℕ). flat_in_range c.args.n (record { left = x; right = y })) c.row.ensures c.row-in-loop-i.ensures) ∙ c.if-not-flat_in_range.true)

pub loop-i-preserved : goal.loop-i-preserved
loop-i-preserved c =
    all_next (flat_in_range c.args.n) (clause_at c.args.self.now.left c.args.self.now.right) c.loop-i.i c.loop-i.invariant
    (sym (c.flat_in_range.ensures ∙ ap₂ (λ (x y : ℕ). flat_in_range c.args.n (record { left = x; right = y })) c.row.ensures c.row-in-loop-i.ensures) ∙ c.if-not-flat_in_range.false)

pub returns : goal.returns
unfolding flats_in_range clauses
returns c =
    rows_hold (flat_in_range c.args.n) (clause_at c.args.self.now.left c.args.self.now.right) c.args.self.now.count _ c.if-self-gt-FLATS.false
    c.loop-i.i (omega arith) (omega arith) c.loop-i.invariant
