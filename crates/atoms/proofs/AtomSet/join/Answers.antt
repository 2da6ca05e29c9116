-- Union is the machine's `|`.
use mathlib.Core.Path.{refl}
use Rattle.atoms.specs.Words.{num}
use Rattle.atoms.proofs.AtomSet.join.Goals as goal

pub returns : goal.returns
unfolding num
returns c = refl
