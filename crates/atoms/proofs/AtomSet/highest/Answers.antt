-- The set of the atom with the highest number.
use native.Mathlib.Omega.{arith}
use Rattle.atoms.specs.Sets.{limit}
use Rattle.atoms.specs.Words.{num}
use Rattle.atoms.proofs.Machine.{highest_single}
use Rattle.atoms.proofs.AtomSet.highest.Goals as goal

pub returns : goal.returns
unfolding num limit
returns c = highest_single _ _ _ (omega arith) c.highest_number.ensures c.single.ensures
