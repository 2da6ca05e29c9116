-- The refusal of the text, or the answer to its goal.
use Rattle.syntax.specs.Judge.{judge}
use Rattle.syntax.proofs.Judge.{judge_right}
use Rattle.clausify.proofs.Texts.{settled_refused, settled_asked}
use Rattle.clausify.proofs.settle.Goals as goal
use Rattle.clausify.proofs.settle.Goals.{in-Err, in-Ok}

pub returns : goal.returns
returns c =
    let text = c.args.text.now in
    elim c.match-problem.branch [
      | in-Err w ↦ rw (w.verdict-is, w.problem-is) (settled_refused (judge text) c.clausify-problem.result _ c.clausify-problem.ensures w.in-Err.is)
      | in-Ok w ↦ rw (w.verdict-is, w.problem-is) (settled_asked text (judge text) (judge_right text) c.clausify-problem.result c.clausify-problem.ensures w.in-Ok.is
          w.ask-verdict.result w.ask-verdict.new.self w.ask-verdict.ensures.asked)
    ]
