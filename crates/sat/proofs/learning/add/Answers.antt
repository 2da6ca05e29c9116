-- One row more, where there is room.
use Rattle.std.proofs.Common.{refl, le_refl, arith}
use Rattle.sat.proofs.Rows.{longer_same, longer_more}
use Rattle.sat.proofs.learning.add.Goals as goal

pub returns-then-rows-row : goal.returns-then-rows-row
returns-then-rows-row c = record { longer = longer_same _ _ _ _ (le_refl _) _ refl; same_own = refl; end_follows = tt }

pub returns-then-rows-row-2 : goal.returns-then-rows-row-2
returns-then-rows-row-2 c = record { longer = longer_same _ _ _ _ (le_refl _) _ refl; same_own = refl; end_follows = tt }

pub returns : goal.returns
returns c = record {
  longer = longer_more _ _ _ _ (le_refl _) _ _ _ _ c.set_row.ensures c.set_row-2.ensures
      (omega (arith, c.rows.ensures)) (omega (arith, c.rows-2.ensures)) c.requires;
  same_own = refl;
  end_follows = tt;
}
