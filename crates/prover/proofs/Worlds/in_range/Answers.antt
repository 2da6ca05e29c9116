-- The count, then the rows.
use mathlib.Core.Path.{refl, sym, ap, ◌∙◌}
use native.Mathlib.Omega.{arith}
use Rattle.ipl.specs.Lists.{all, tabulate}
use Rattle.ipl.proofs.Lists.{all_next}
use Rattle.ipl.specs.Range.{set_in_range}
use Rattle.atoms.specs.Words.{row_of}
use Rattle.prover.specs.InRange.{worlds_in_range}
use Rattle.prover.proofs.Ranges.{too_many, row_fails, rows_hold}
use Rattle.prover.proofs.Worlds.in_range.Goals as goal

pub returns-then-self-gt-WORLDS : goal.returns-then-self-gt-WORLDS
unfolding worlds_in_range
returns-then-self-gt-WORLDS c = too_many (set_in_range c.args.n) (row_of c.args.self.now.sets) c.args.self.now.count _ c.if-self-gt-WORLDS.true

pub loop-i-init : goal.loop-i-init
unfolding all tabulate
loop-i-init c = refl

pub returns-then-not-set_in_range : goal.returns-then-not-set_in_range
unfolding worlds_in_range
returns-then-not-set_in_range c =
    row_fails (set_in_range c.args.n) (row_of c.args.self.now.sets) c.args.self.now.count _ c.loop-i.i (omega arith)
    (sym (c.set_in_range.ensures ∙ ap (set_in_range c.args.n) c.row.ensures) ∙ c.if-not-set_in_range.true)

pub loop-i-preserved : goal.loop-i-preserved
loop-i-preserved c =
    all_next (set_in_range c.args.n) (row_of c.args.self.now.sets) c.loop-i.i c.loop-i.invariant
    (sym (c.set_in_range.ensures ∙ ap (set_in_range c.args.n) c.row.ensures) ∙ c.if-not-set_in_range.false)

pub returns : goal.returns
unfolding worlds_in_range
returns c =
    rows_hold (set_in_range c.args.n) (row_of c.args.self.now.sets) c.args.self.now.count _ c.if-self-gt-WORLDS.false
    c.loop-i.i (omega arith) (omega arith) c.loop-i.invariant
