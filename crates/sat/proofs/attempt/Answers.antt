-- What is given and what must be lacked are the start of the search; its answer is that of the definition.
use Rattle.std.specs.Prelude.{None, Some}
use Rattle.sat.proofs.Question.{contrary, settled}
use Rattle.sat.proofs.attempt.Goals as goal

pub returns-in_default : goal.returns-in_default
returns-in_default c = contrary _ _ _ _ _ _ c.in_default.ensures

pub returns-in-Least : goal.returns-in-Least
returns-in-Least c = settled _ _ _ _ _ _ _ c.in-Some.ensures (Some c.in-Least.m) c.in-Least.ensures

pub returns-in-Blocked : goal.returns-in-Blocked
returns-in-Blocked c = settled _ _ _ _ _ _ _ c.in-Some.ensures None c.in-Blocked.ensures.0
