-- The bytes of an entry, or too few.
use native.Mathlib.Omega.{arith}
use Rattle.certificate.proofs.OneEntry.{entry_past, entry_there}
use Rattle.certificate.proofs.reader.entry_at.Goals as goal

pub returns-in_err-last : goal.returns-in_err-last
returns-in_err-last c = rw c.from_residual.ensures (entry_past _ _ (omega (arith, c.in_err-last.ensures)))

pub returns-then-last-at : goal.returns-then-last-at
returns-then-last-at c = entry_past _ _ (omega (arith, c.in_ok-last.ensures))

pub returns : goal.returns
returns c = entry_there _ _ (omega (arith, c.in_ok-last.ensures)) _ _ _ c.byte.ensures c.number.ensures.is c.number-2.ensures.is
