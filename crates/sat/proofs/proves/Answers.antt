-- As of `ask_keeping`, with yes or no for its answer.
use Rattle.std.proofs.Common.{ap, ◌∙◌}
use Rattle.ipl.specs.Search.{is_none}
use Rattle.sat.proofs.Question.{no_model, decided}
use Rattle.sat.proofs.proves.Goals as goal

pub returns-in-Ok : goal.returns-in-Ok
returns-in-Ok c f = (no_model _ _ c.is_none.ensures ∙ ap is_none c.in-Ok.ensures, f)

pub returns-in-Err : goal.returns-in-Err
returns-in-Err c f =
    let r = c.settle-r.ensures f in
    (no_model _ _ c.is_none-in-Err.ensures ∙ decided _ _ _ _ _ _ _ c.in-Err.ensures c.settle-r.result.answer r.0, r.1)
