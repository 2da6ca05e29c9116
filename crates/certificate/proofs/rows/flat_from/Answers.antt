-- Both sides.
use mathlib.Core.Path.{ap₂}
use Rattle.ipl.specs.Clause.{Flat}
use Rattle.certificate.specs.Layout.{flat_from}
use Rattle.certificate.proofs.rows.flat_from.Goals as goal

pub returns : goal.returns
unfolding flat_from
returns c = ap₂ {C = Flat} (λ x y. record { left = x; right = y }) c.load.ensures c.load-2.ensures
