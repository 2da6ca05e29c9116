use mathlib.Core.Path.{ap, subst}
use Rattle.std.specs.Prelude.{Ok}
use Rattle.std.proofs.lemmas.Result.{err_from_is_err_and}
use Rattle.prover.specs.Search.{TurnRight}
use Rattle.prover.proofs.Runs.{underway, few_questions, ended, refused_end, closer, underway_next}
use Rattle.prover.proofs.question.Search.proceed.Goals as goal

pub loop-end-init : goal.loop-end-init
loop-end-init c = underway _ c.requires.1

pub turn-requires : goal.turn-requires
turn-requires c = (c.requires.0, c.loop-end.invariant.working, few_questions c.loop-end.invariant)

pub returns-in_err-end : goal.returns-in_err-end
returns-in_err-end c =
    let p = err_from_is_err_and c.from_residual.result c.from_residual.ensures.1 in
    rw (p.1, p.2) (refused_end c.loop-end.invariant c.turn.new.self _ c.in_err-end.ensures)

pub returns-in-Some : goal.returns-in-Some
returns-in-Some c = ended c.loop-end.invariant c.turn.new.self _
    (subst (TurnRight c.args.n c.args.goal c.args.x.now c.loop-end.self c.turn.new.self) (ap Ok c.in-Some.is) c.in_ok-end.ensures)

pub loop-end-smaller : goal.loop-end-smaller
loop-end-smaller c = closer c.loop-end.invariant c.turn.new.self
    (subst (TurnRight c.args.n c.args.goal c.args.x.now c.loop-end.self c.turn.new.self) (ap Ok c.in_default.is) c.in_ok-end.ensures)

pub loop-end-preserved : goal.loop-end-preserved
loop-end-preserved c = underway_next c.loop-end.invariant c.turn.new.self
    (subst (TurnRight c.args.n c.args.goal c.args.x.now c.loop-end.self c.turn.new.self) (ap Ok c.in_default.is) c.in_ok-end.ensures)
