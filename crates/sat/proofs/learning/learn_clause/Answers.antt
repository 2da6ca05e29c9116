-- What is added is what is left of the clause.
use Rattle.sat.proofs.learning.learn_clause.Goals as goal

pub add-requires : goal.add-requires
add-requires c = c.shorter-s.ensures c.requires
