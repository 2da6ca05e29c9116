-- The first search answers, or the longer table does.
use Rattle.sat.proofs.Question.{settled}
use Rattle.sat.proofs.ask_keeping.Goals as goal

pub returns-in-Err : goal.returns-in-Err
returns-in-Err c f =
    let r = c.settle.ensures f in
    (settled _ _ _ _ _ _ _ c.in-Err.ensures c.settle.result.answer r.0, r.1)
