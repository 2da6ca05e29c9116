-- The limit is 64.
use mathlib.Core.Path.{refl}
use Rattle.atoms.specs.Sets.{limit}
use Rattle.atoms.proofs.AtomSet.fits.Goals as goal

pub returns : goal.returns
unfolding limit
returns c = refl
