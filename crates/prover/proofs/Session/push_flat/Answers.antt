-- The clause goes to the end.
use mathlib.Core.Path.{ap, ◌∙◌}
use mathlib.Core.List.{List}
use Rattle.ipl.specs.Clause.{Flat}
use Rattle.ipl.specs.Book.{added, taken}
use Rattle.prover.specs.State.{implications_of, steps_of, marks_of}
use Rattle.prover.proofs.Refusals.{flat_room}
use Rattle.prover.proofs.Session.push_flat.Goals as goal

pub push-requires : goal.push-requires
push-requires c = flat_room _ _ c.requires

pub returns : goal.returns
unfolding taken added
returns c =
    let s = c.args.self.now in (
      c.drop_verdict.ensures.0
          ∙ ap (λ (F : List Flat). record { n = s.n; flats = F; implications = implications_of s.implications; steps = steps_of s.steps; marks = marks_of s.marks }) c.push.ensures,
      c.drop_verdict.ensures.1,
    )
