-- A conflict is added, or rows are dropped.
use Rattle.std.proofs.Common.{refl, subst}
use Rattle.sat.specs.Learning.{EndFollows}
use Rattle.sat.proofs.Rows.{longer_less, longer_same}
use Rattle.sat.proofs.learning.close.Goals as goal

pub add-requires : goal.add-requires
add-requires c = subst (EndFollows c.args.t.now) c.in-Conflict.is c.requires

pub returns-in-Conflict : goal.returns-in-Conflict
returns-in-Conflict c = record { longer = longer_less _ _ _ _ _ _ c.add.ensures.longer _ c.args.t.now.enough; same_own = c.add.ensures.same_own }

pub returns-in-Learned : goal.returns-in-Learned
returns-in-Learned c = record { longer = longer_same _ _ _ _ c.args.t.now.enough _ refl; same_own = refl }

pub returns-in-Model : goal.returns-in-Model
returns-in-Model c = record { longer = longer_same _ _ _ _ c.args.t.now.enough _ refl; same_own = refl }
