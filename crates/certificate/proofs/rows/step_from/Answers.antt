-- The number and the set.
use mathlib.Core.Path.{ap₂}
use Rattle.ipl.specs.Search.{Step}
use Rattle.certificate.specs.Layout.{step_from}
use Rattle.certificate.proofs.rows.step_from.Goals as goal

pub returns : goal.returns
unfolding step_from
returns c = ap₂ {C = Step} (λ x y. record { number = x; assumed = y }) c.byte.ensures c.load.ensures
