-- The clauses of each connective.
use Rattle.syntax.specs.declared.Connective.TheVariants.{And, Or, Implies}
use Rattle.clausify.proofs.Written.{put_as}
use Rattle.clausify.proofs.flat_clauses.put_part.Goals as goal

pub returns-in-And : goal.returns-in-And
returns-in-And c = put_as _ And _ _ _ c.in-And.is c.put_and.ensures

pub returns-in-Or : goal.returns-in-Or
returns-in-Or c = put_as _ Or _ _ _ c.in-Or.is c.put_or.ensures

pub returns-in-Implies : goal.returns-in-Implies
returns-in-Implies c = put_as _ Implies _ _ _ c.in-Implies.is c.put_implies.ensures
