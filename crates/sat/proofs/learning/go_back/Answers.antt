-- The conflict is learned, or its resolvent follows; any other end stays.
use Rattle.std.proofs.Common.{refl, subst, le_refl}
use Rattle.sat.specs.Learning.{EndFollows}
use Rattle.sat.proofs.Rows.{longer_same}
use Rattle.sat.proofs.learning.go_back.Goals as goal

pub learn_clause-requires : goal.learn_clause-requires
learn_clause-requires c = subst (EndFollows c.args.t.now) c.in-Conflict.is c.requires

pub returns-else-is_single : goal.returns-else-is_single
returns-else-is_single c = record {
  longer = longer_same _ _ _ _ (le_refl _) _ refl;
  same_own = refl;
  end_follows = c.resolved_by.ensures (subst (EndFollows c.args.t.now) c.in-Conflict.is c.requires);
}

pub returns-in_default : goal.returns-in_default
returns-in_default c = record { longer = longer_same _ _ _ _ (le_refl _) _ refl; same_own = refl; end_follows = c.requires }
