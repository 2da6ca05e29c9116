-- A word is below 2 ^ 64.
use native.Mathlib.Omega.{arith}
use Rattle.atoms.specs.Sets.{limit}
use Rattle.atoms.specs.Words.{num}
use Rattle.atoms.proofs.AtomSet.bounded.Goals as goal

pub returns : goal.returns
unfolding num limit
returns c = omega arith
