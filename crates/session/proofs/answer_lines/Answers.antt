-- Each line gathered leaves less of the piece; its answer stands behind those held.
use Rattle.std.proofs.Common.{sym, ◌∙◌, arith, ap, take}
use Rattle.std.specs.Prelude.{option_copied}
use Rattle.std.proofs.lemmas.Bool.Decides.{Decides-eqb}
use Rattle.script.proofs.Leading.{prints_on, less_left}
use Rattle.session.proofs.Holding.{held_inside, prints_held}
use Rattle.session.proofs.answer_lines.Goals as goal

pub returns-in_default : goal.returns-in_default
returns-in_default c =
    let l = c.loop-line in
    record {
      further = λ h. h;
      fits = omega arith;
      prints = prints_on (take l.held l.output) c.args.piece.now _ l.invariant.prints c.gather.ensures.step (ap option_copied c.in_default.is);
    }

pub overflow_add-held : goal.overflow_add-held
overflow_add-held c =
    let answered = c.answer_line-held in
    omega (arith, held_inside c.loop-line.output c.loop-line.held _ answered.ensures (omega arith) answered.auto.output)

pub overflow_sub-output : goal.overflow_sub-output
overflow_sub-output c =
    let answered = c.answer_line-held in
    omega (arith, held_inside c.loop-line.output c.loop-line.held _ answered.ensures (omega arith) answered.auto.output)

pub returns-then-not-can_wait : goal.returns-then-not-can_wait
returns-then-not-can_wait c =
    let l = c.loop-line in
    let next = ap option_copied c.in-Some.is in
    let answered = c.answer_line-held in
    record {
      further = λ h. omega (arith, less_left c.gather.ensures.step next);
      fits = held_inside l.output l.held _ answered.ensures (omega arith) answered.auto.output;
      prints = prints_held l.output l.held _ answered.ensures (omega arith) c.args.piece.now l.invariant.prints
          c.gather.ensures.step next (omega arith) c.number_after-script.ensures;
    }

pub loop-line-preserved : goal.loop-line-preserved
loop-line-preserved c =
    let l = c.loop-line in
    let next = ap option_copied c.in-Some.is in
    let answered = c.answer_line-held in
    record {
      since = omega (arith, less_left c.gather.ensures.step next);
      room = omega (arith, c.can_wait.ensures c.if-not-can_wait.false, held_inside l.output l.held _ answered.ensures (omega arith) answered.auto.output);
      prints = prints_held l.output l.held _ answered.ensures (omega arith) c.args.piece.now l.invariant.prints
          c.gather.ensures.step next (omega arith) c.number_after-script.ensures;
    }

pub returns : goal.returns
returns c =
    let empty = (Decides-eqb _ _).0 (sym c.is_empty.ensures ∙ c.loop-line-test.false) in
    record { further = λ h. omega (arith, empty); fits = omega arith; prints = c.loop-line.invariant.prints }
