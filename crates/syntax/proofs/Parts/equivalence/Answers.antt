-- Three compounds, one after the other.
use Rattle.syntax.proofs.Held.{there_full, back_full, equivalence_named}
use Rattle.syntax.proofs.Parts.equivalence.Goals as goal

pub returns-in_err-there : goal.returns-in_err-there
returns-in_err-there c = rw c.from_residual.ensures (there_full _ _ _ c.in_err-there.ensures)

pub returns-in_err-back : goal.returns-in_err-back
returns-in_err-back c = rw c.from_residual-in_err-back.ensures (back_full _ _ _ _ _ c.in_ok-there.ensures c.compound-2.new.self c.in_err-back.ensures)

pub returns : goal.returns
returns c = equivalence_named _ _ _ _ _ c.in_ok-there.ensures _ _ c.in_ok-back.ensures _ _ c.compound-3.ensures
