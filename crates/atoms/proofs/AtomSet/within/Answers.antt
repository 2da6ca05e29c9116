-- A set is within another where `&` leaves it whole.
use mathlib.Core.Path.{refl}
use Rattle.atoms.specs.Sets.{within}
use Rattle.atoms.specs.Words.{num}
use Rattle.atoms.proofs.AtomSet.within.Goals as goal

pub returns : goal.returns
unfolding num within
returns c = refl
