-- The machine's division by ten.
use mathlib.Core.Path.{refl}
use Rattle.atoms.specs.Words.{num}
use Rattle.atoms.proofs.AtomSet.tenth.Goals as goal

pub returns : goal.returns
unfolding num
returns c = (refl, refl)
