-- ⊥, then the compound.
use Rattle.syntax.proofs.Held.{negation_full, negation_named}
use Rattle.syntax.proofs.Parts.negation.Goals as goal

pub returns-in_err-falsum : goal.returns-in_err-falsum
returns-in_err-falsum c = rw c.from_residual.ensures (negation_full _ _ c.in_err-falsum.ensures)

pub returns : goal.returns
returns c = negation_named _ _ _ _ c.in_ok-falsum.ensures _ _ c.compound.ensures
