-- The mark goes to the end of the marks; all else stays.
use mathlib.Core.List.{List}
use mathlib.Core.Path.{refl, sym, ap, ◌∙◌}
use Rattle.ipl.specs.Marks.{Mark, set_last}
use Rattle.ipl.specs.Book.{mark_refusal, taken}
use Rattle.prover.specs.State.{flats_of, implications_of, steps_of, marks_of}
use Rattle.prover.proofs.Sessions.{few_marks}
use Rattle.prover.proofs.Refusals.{number_zero}
use Rattle.prover.proofs.Returns.{now_is}
use Rattle.prover.proofs.Session.mark_now.Goals as goal

pub set_last-requires : goal.set_last-requires
set_last-requires c = few_marks c.args.self.now (number_zero c.args.self.now (mark_refusal c.args.number) c.requires).0

pub returns : goal.returns
unfolding taken
returns c =
    let s = c.args.self.now in (
      ap (λ (M : List Mark). record { n = s.n; flats = flats_of s.flats; implications = implications_of s.implications; steps = steps_of s.steps; marks = M })
          (c.set_last.ensures ∙ ap (λ (m : Mark). set_last m (marks_of s.marks)) (sym (now_is s c.args.number))),
      record { same_verdict = refl; same_worlds = refl; work = refl },
    )
