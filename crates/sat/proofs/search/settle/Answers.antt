-- Without a limit it is never given up.
use Rattle.std.proofs.Common.{refl}
use Rattle.sat.proofs.search.settle.Goals as goal

pub returns-in-Least : goal.returns-in-Least
returns-in-Least c = c.in-Least.ensures

pub returns-in-Blocked : goal.returns-in-Blocked
returns-in-Blocked c = c.in-Blocked.ensures.0

pub returns-in-GaveUp : goal.returns-in-GaveUp
returns-in-GaveUp c = absurd (c.in-GaveUp.ensures refl)
