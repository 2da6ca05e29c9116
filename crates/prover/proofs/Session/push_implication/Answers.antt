-- The implication goes to the end, and its closing clause to that of the flat clauses.
use mathlib.Core.Path.{ap₂, ◌∙◌}
use mathlib.Core.List.{List}
use Rattle.ipl.specs.Clause.{Flat, Implication}
use Rattle.ipl.specs.Book.{added, taken}
use Rattle.prover.specs.State.{steps_of, marks_of}
use Rattle.prover.proofs.Refusals.{closing_fits, implication_room}
use Rattle.prover.proofs.Session.push_implication.Goals as goal

pub push_closing-requires : goal.push_closing-requires
push_closing-requires c = closing_fits _ _ c.requires

pub push-requires : goal.push-requires
push-requires c = implication_room _ _ c.requires

pub returns : goal.returns
unfolding taken added
returns c =
    let s = c.args.self.now in (
      c.drop_verdict.ensures.0
          ∙ ap₂ (λ (F : List Flat) (X : List Implication). record { n = s.n; flats = F; implications = X; steps = steps_of s.steps; marks = marks_of s.marks })
          c.push_closing.ensures c.push.ensures,
      c.drop_verdict.ensures.1,
    )
