-- Two sets meet where `&` leaves something.
use mathlib.Core.Path.{refl}
use Rattle.atoms.specs.Sets.{meets}
use Rattle.atoms.specs.Words.{num}
use Rattle.atoms.proofs.AtomSet.meets.Goals as goal

pub returns : goal.returns
unfolding num meets
returns c = refl
