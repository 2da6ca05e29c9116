-- The part's row is looked at once all are written.
use Rattle.syntax.proofs.Held.{held_length}
use Rattle.fork.proofs.Values.{no_cells, first_in}
use native.Mathlib.Omega.{arith}
use Rattle.fork.proofs.rows.Formula.first_fall.Goals as goal

pub fill-requires : goal.fill-requires
fill-requires c = (no_cells, c.requires)

pub first_below-requires : goal.first_below-requires
first_below-requires c =
    let formula = c.args.self.now in
    let sound = formula.tabled.sound in
    (c.fill.ensures.good, omega (arith, c.from.ensures, formula.inside, held_length _ sound, sound.bounded))

pub returns : goal.returns
returns c = first_in _ _ _ c.fill.ensures _ c.args.self.now.inside _ (rw c.from.ensures at c.first_below.ensures)
