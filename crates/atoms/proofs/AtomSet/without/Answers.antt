-- `a & !b` is the difference of sets.
use native.Mathlib.Omega.{arith}
use Rattle.atoms.specs.Words.{num}
use Rattle.atoms.proofs.Bits.{and_not_minus}
use Rattle.atoms.proofs.AtomSet.without.Goals as goal

pub returns : goal.returns
unfolding num
returns c = and_not_minus 64 c.args.self.bits c.args.other.bits (omega arith) (omega arith)
