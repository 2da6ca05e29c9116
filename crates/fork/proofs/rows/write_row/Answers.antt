use mathlib.Core.Path.{sym, ◌∙◌}
use Rattle.fork.proofs.Filling.{cell_inside, begun_none, begun_readable, begun_more, begun_all}
use borrow.Author.Rules.{rules}
use native.Mathlib.Omega.{arith}
use Rattle.fork.proofs.rows.write_row.Goals as goal

pub loop-column-init : goal.loop-column-init
loop-column-init c = begun_none _ _ _ _ _ c.requires.good

pub value_of-value-requires : goal.value_of-value-requires
value_of-value-requires c = begun_readable _ _ _ _ _ c.requires.inside c.requires.earlier _ _ c.loop-column.invariant (search rules)

pub bounds-values-row : goal.bounds-values-row
bounds-values-row c =
    let w = c.requires in
    let l = c.loop-column in
    omega (arith, l.invariant.good.sized, cell_inside c.args.row l.column w.inside (search rules))

pub loop-column-preserved : goal.loop-column-preserved
loop-column-preserved c =
    let w = c.requires in
    begun_more _ _ _ _ _ w.inside w.earlier _ _ c.loop-column.invariant (search rules) _ c.value_of-value.ensures

pub shape_of-values : goal.shape_of-values
shape_of-values c = c.loop-column.invariant.good.sized ∙ sym c.requires.good.sized

pub returns : goal.returns
returns c =
    let w = c.requires in
    begun_all _ _ _ _ _ w.inside w.earlier _ _ c.loop-column.invariant c.loop-column-test.false

pub overflow_add-number : goal.overflow_add-number
overflow_add-number c = omega arith
