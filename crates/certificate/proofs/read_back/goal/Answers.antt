-- The goal byte, where the layout is kept.
use Rattle.certificate.proofs.RowsBack.{unlaid_goal, laid_goal}
use Rattle.certificate.proofs.read_back.goal.Goals as goal

pub returns-in-Some : goal.returns-in-Some
returns-in-Some c = laid_goal _ _ c.in-Some.ensures _ c.goal.ensures

pub returns-in-None : goal.returns-in-None
returns-in-None c = unlaid_goal _ c.in-None.ensures
