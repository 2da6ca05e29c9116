-- The search begins from the session's clauses and steps.
use Rattle.ipl.specs.Authors.{author_table}
use Rattle.prover.proofs.Answers.{question_zero, ended_whole, full_asked}
use Rattle.prover.proofs.Sessions.{usable, steps_known}
use borrow.Author.Tests.{ltb-true}
use Rattle.std.proofs.lemmas.Result.{err_from_is_err_and}
use Rattle.std.specs.Prelude.{Ok, Err}
use Rattle.prover.proofs.settling.settle.Goals as goal

pub new-search-requires : goal.new-search-requires
new-search-requires c =
    let k = question_zero c.args.s.now c.args.author c.args.goal c.requires in steps_known c.args.s.now k.is_in_range

pub proceed-requires : goal.proceed-requires
proceed-requires c =
    let s = c.args.s.now in
    let u = usable s (question_zero s c.args.author c.args.goal c.requires).is_in_range in
    (u, (c.new-search.ensures s.n u).fresh)

pub conclude-requires : goal.conclude-requires
conclude-requires c =
    let s = c.args.s.now in
    let k = question_zero s c.args.author c.args.goal c.requires in (
      ltb-true c.args.author author_table k.author,
      ended_whole s c.args.goal _ c.proceed.new.self (Ok c.in_ok-end.end) (c.new-search.ensures s.n (usable s k.is_in_range)) c.in_ok-end.ensures,
    )

pub returns-in_err-end-clause-asked : goal.returns-in_err-end-clause-asked
returns-in_err-end-clause-asked c =
    let s = c.args.s.now in
    let k = question_zero s c.args.author c.args.goal c.requires in
    let p = err_from_is_err_and c.from_residual.result c.from_residual.ensures.1 in
    rw (p.1, p.2) (full_asked s c.args.author c.args.goal _ c.proceed.new.self c.in_err-end.field-0.0
    (ended_whole s c.args.goal _ c.proceed.new.self (Err c.in_err-end.field-0.0) (c.new-search.ensures s.n (usable s k.is_in_range)) c.in_err-end.ensures))
