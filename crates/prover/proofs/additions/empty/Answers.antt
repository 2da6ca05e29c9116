-- No row is held.
use mathlib.Core.Path.{refl}
use Rattle.ipl.specs.Lists.{tabulate}
use Rattle.sat.specs.Table.{clauses}
use Rattle.prover.proofs.additions.empty.Goals as goal

pub returns : goal.returns
unfolding clauses tabulate
returns c = (refl, record { no_verdict = refl; no_worlds = refl; work = refl })
