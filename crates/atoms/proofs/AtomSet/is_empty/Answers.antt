-- The empty set is the number 0.
use mathlib.Core.Path.{refl}
use Rattle.atoms.specs.Words.{num}
use Rattle.atoms.proofs.AtomSet.is_empty.Goals as goal

pub returns : goal.returns
unfolding num
returns c = refl
