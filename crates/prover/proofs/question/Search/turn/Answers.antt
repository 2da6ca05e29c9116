-- Each way that a turn can go is that of the definition.
use Rattle.std.proofs.lemmas.Result.{err_from_is_err_and}
use Rattle.prover.proofs.Turns.{first_atoms, begin_right, refuted_right, given_is, learn_fits, countered_more, countered_full, proved_more, proved_full}
use Rattle.prover.proofs.question.Search.turn.Goals as goal

pub returns-then-self-eq0 : goal.returns-then-self-eq0
returns-then-self-eq0 c = begin_right c.args.goal c.requires.0 c.requires.1 c.if-self-eq0.true c.begin.new.self c.begin.result c.begin.ensures

pub next_pair-requires : goal.next_pair-requires
next_pair-requires c = (c.requires.1.pair_number, c.requires.1.pair_world, c.requires.0.count, first_atoms c.requires.0)

pub returns-in_default : goal.returns-in_default
returns-in_default c = refuted_right c.args.goal c.requires.0 c.requires.1 c.if-self-eq0.false c.in_default.ensures

pub learn-requires : goal.learn-requires
learn-requires c =
    let s = c.args in
    let eg = given_is s.goal c.requires.0 c.requires.1 c.if-self-eq0.false c.in-Some.ensures c.single.ensures c.row.ensures c.join-given.ensures in
    learn_fits s.goal c.requires.0 c.requires.1 c.if-self-eq0.false c.in-Some.ensures eg c.ask.ensures

pub returns-in_err-grow-in-Some-ask : goal.returns-in_err-grow-in-Some-ask
returns-in_err-grow-in-Some-ask c =
    let s = c.args in
    let eg = given_is s.goal c.requires.0 c.requires.1 c.if-self-eq0.false c.in-Some.ensures c.single.ensures c.row.ensures c.join-given.ensures in
    let p = err_from_is_err_and c.from_residual.result c.from_residual.ensures.1 in
    rw (p.1, p.2) (countered_full s.goal c.requires.0 c.requires.1 c.if-self-eq0.false c.in-Some.ensures eg c.ask.ensures
    _ c.in-Some-ask.is c.grow.new.self _ c.in_err-grow-in-Some-ask.ensures)

pub returns-in_err-learn-in-None : goal.returns-in_err-learn-in-None
returns-in_err-learn-in-None c =
    let s = c.args in
    let eg = given_is s.goal c.requires.0 c.requires.1 c.if-self-eq0.false c.in-Some.ensures c.single.ensures c.row.ensures c.join-given.ensures in
    let p = err_from_is_err_and c.from_residual-in_err-learn-in-None.result c.from_residual-in_err-learn-in-None.ensures.1 in
    rw (p.1, p.2) (proved_full s.goal c.requires.0 c.requires.1 c.if-self-eq0.false c.in-Some.ensures eg c.ask.ensures
    c.in-None.is c.learn.new.self _ c.in_err-learn-in-None.ensures)

pub returns-in_ok-grow-in-Some-ask : goal.returns-in_ok-grow-in-Some-ask
returns-in_ok-grow-in-Some-ask c =
    let s = c.args in
    let eg = given_is s.goal c.requires.0 c.requires.1 c.if-self-eq0.false c.in-Some.ensures c.single.ensures c.row.ensures c.join-given.ensures in
    countered_more s.goal c.requires.0 c.requires.1 c.if-self-eq0.false c.in-Some.ensures eg c.ask.ensures
    _ c.in-Some-ask.is c.grow.new.self c.in_ok-grow-in-Some-ask.ensures

pub returns-in_ok-learn-in-None : goal.returns-in_ok-learn-in-None
returns-in_ok-learn-in-None c =
    let s = c.args in
    let eg = given_is s.goal c.requires.0 c.requires.1 c.if-self-eq0.false c.in-Some.ensures c.single.ensures c.row.ensures c.join-given.ensures in
    proved_more s.goal c.requires.0 c.requires.1 c.if-self-eq0.false c.in-Some.ensures eg c.ask.ensures
    c.in-None.is c.learn.new.self c.in_ok-learn-in-None.ensures
