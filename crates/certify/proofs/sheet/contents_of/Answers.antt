-- The counts are within their tables; the rows are those of the claim that it is.
use native.Mathlib.Omega.{arith}
use mathlib.Core.Path.{◌≡◌, ap, sym, ◌∙◌}
use Rattle.prover.proofs.Sessions.{few_flats, usable}
use Rattle.certify.specs.Writing.{rows_held}
use Rattle.certify.proofs.Whole.{few_rows, contents_as}
use Rattle.certify.proofs.sheet.contents_of.Goals as goal
use Rattle.certify.proofs.sheet.contents_of.Goals.{else-refuting, then-refuting}

-- The rows of the claim that it is.
rows_counted : (c : goal.After-row_known-3-1) → c.if-refuting.rows ≡ rows_held c.args.s.now c.args.refuting
rows_counted c =
    elim c.if-refuting.branch [ then-refuting w ↦ w.rows-is ∙ ap (rows_held c.args.s.now) (sym w.if-refuting.true) | else-refuting w ↦ w.rows-is ∙ ap (rows_held c.args.s.now) (sym w.if-refuting.false) ]

pub overflow_cast-result : goal.overflow_cast-result
overflow_cast-result c = omega (arith, few_flats c.args.s.now c.requires)

pub overflow_cast-result-2 : goal.overflow_cast-result-2
overflow_cast-result-2 c = omega (arith, (usable c.args.s.now c.requires).count)

pub overflow_cast-result-3 : goal.overflow_cast-result-3
overflow_cast-result-3 c = omega (arith, rows_counted c, few_rows c.args.s.now c.requires c.args.refuting)

pub returns : goal.returns
returns c = contents_as c.args.s.now c.args.refuting c.if-refuting.rows (rows_counted c)
