-- A set is its word.
use mathlib.Core.Path.{refl}
use Rattle.atoms.specs.Words.{num}
use Rattle.atoms.proofs.AtomSet.numbered.Goals as goal

pub returns : goal.returns
unfolding num
returns c = refl
