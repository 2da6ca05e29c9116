-- What the lines of a part print stands behind what was printed.
use Rattle.std.proofs.Common.{◌≤◌, length, sym, ◌∙◌, arith, take}
use Rattle.std.proofs.lemmas.Bool.Decides.{Decides-eqb}
use Rattle.script.proofs.Leading.{prints_more, prints_through}
use Rattle.session.proofs.answer.Goals as goal

pub loop-rest-preserved : goal.loop-rest-preserved
loop-rest-preserved g c = record {
  prints = prints_more c.args.piece.now _ _ c.loop-rest.invariant.prints (take c.answer_lines-n.result.1 _) c.answer_lines-n.ensures.prints;
}

pub returns : goal.returns
returns g c = λ _.
    let empty = (Decides-eqb _ _).0 (sym c.is_empty.ensures ∙ c.loop-rest-test.false) in
    let over : length c.loop-rest.rest.now ≤ 0 = omega (arith, empty) in
    prints_through c.args.piece.now _ over c.loop-rest.invariant.prints
