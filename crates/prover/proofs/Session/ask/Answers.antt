-- Refused before the search, or its answer.
use Rattle.std.proofs.lemmas.Result.{err_from_is_err_and}
use mathlib.Core.Path.{sym}
use Rattle.prover.proofs.Answers.{asked_whole, asked_refused}
use Rattle.prover.proofs.Session.ask.Goals as goal

pub returns-in_err-check_question-clause-asked : goal.returns-in_err-check_question-clause-asked
returns-in_err-check_question-clause-asked c =
    let p = err_from_is_err_and c.from_residual.result c.from_residual.ensures.1 in
    rw (p.1, p.2) (asked_refused _ _ _ _ c.in_err-check_question.ensures.number c.in_err-check_question.ensures.no_place)

pub returns-clause-asked : goal.returns-clause-asked
returns-clause-asked c = asked_whole _ _ _ (sym c.in_ok-check_question.ensures.number) _ c.settle.ensures.asked
