-- The tables with the counts that the mark remembers.
use mathlib.Core.Path.{◌∙◌}
use native.Mathlib.Omega.{arith}
use Rattle.prover.proofs.Sessions.{few_marks}
use Rattle.prover.proofs.Returns.{book_cut}
use Rattle.prover.proofs.Session.cut_to.Goals as goal

pub offset_bounds-self-place : goal.offset_bounds-self-place
offset_bounds-self-place c = omega (arith, few_marks c.args.self.now c.requires.0)

pub bounds-self-place : goal.bounds-self-place
bounds-self-place c = omega (arith, few_marks c.args.self.now c.requires.0)

pub returns : goal.returns
returns c = (c.drop_verdict.ensures.0 ∙ book_cut c.args.self.now c.requires.0 c.args.place c.requires.1, c.drop_verdict.ensures.1)
