use native.Mathlib.Omega.{arith}
use Rattle.atoms.specs.Sets.{limit}
use Rattle.atoms.specs.Words.{num}
use Rattle.atoms.proofs.AtomSet.with_digit.Goals as goal

pub returns-in_err-checked_mul : goal.returns-in_err-checked_mul
unfolding num limit
returns-in_err-checked_mul c = grind (arith, c.in_err-checked_mul.ensures, c.from_residual.ensures)

pub returns-in_err-bits : goal.returns-in_err-bits
unfolding num limit
returns-in_err-bits c = grind (arith, c.in_ok-checked_mul.ensures, c.from.ensures, c.in_err-bits.ensures, c.from_residual-in_err-bits.ensures)

pub returns : goal.returns
unfolding num limit
returns c = grind (arith, c.in_ok-checked_mul.ensures, c.from.ensures, c.in_ok-bits.ensures)
