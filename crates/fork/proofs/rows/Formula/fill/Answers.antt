use mathlib.Core.Path.{sym, ◌∙◌}
use Rattle.fork.proofs.Values.{filled_none, row_writable, place_next, filled_more, filled_all}
use native.Mathlib.Omega.{arith}
use Rattle.fork.proofs.rows.Formula.fill.Goals as goal

pub overflow_sub-place : goal.overflow_sub-place
overflow_sub-place c = c.args.self.now.tabled.few

pub loop-i-init : goal.loop-i-init
loop-i-init c = filled_none _ _ c.args.self.now.tabled _ _ c.requires.0

pub write_row-requires : goal.write_row-requires
write_row-requires c =
    rw c.from-row.ensures (row_writable _ _ c.args.self.now.tabled _ _ _ _ c.loop-i.invariant _ c.loop-i-test.true c.requires.1)

pub overflow_add-place : goal.overflow_add-place
overflow_add-place c =
    let more = rw c.from-row.ensures at c.letters_in-place.ensures in
    omega (arith, place_next _ _ c.args.self.now.tabled _ _ _ _ c.loop-i.invariant _ c.loop-i-test.true _ more)

pub loop-i-preserved : goal.loop-i-preserved
loop-i-preserved c =
    let written = rw c.from-row.ensures at c.write_row.ensures in
    let more = rw c.from-row.ensures at c.letters_in-place.ensures in
    filled_more _ _ c.args.self.now.tabled _ _ _ _ c.loop-i.invariant _ c.loop-i-test.true _ written _ more

pub shape_of-values : goal.shape_of-values
shape_of-values c = c.loop-i.invariant.good.sized ∙ sym c.requires.0.sized

pub returns : goal.returns
returns c = filled_all _ _ c.args.self.now.tabled _ _ _ _ c.loop-i.invariant c.loop-i-test.false
