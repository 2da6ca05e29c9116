-- `!a` is the difference from the set of all atoms.
use native.Mathlib.Omega.{arith}
use Rattle.atoms.specs.Sets.{limit}
use Rattle.atoms.specs.Words.{num, every_atom}
use Rattle.atoms.proofs.Bits.{not_minus}
use Rattle.atoms.proofs.AtomSet.complement.Goals as goal

pub returns : goal.returns
unfolding num every_atom limit
returns c = not_minus 64 c.args.self.bits (omega arith)
