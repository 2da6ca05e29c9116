-- Point 1 over the empty set.
use mathlib.Core.Path.{sym, ap, ◌∙◌}
use Rattle.atoms.specs.Words.{num}
use Rattle.atoms.proofs.Machine.{num_empty}
use Rattle.sat.specs.Answer.{answer_of}
use Rattle.prover.specs.declared.question.Search.{Search}
use Rattle.prover.specs.Working.{first_pair}
use Rattle.prover.proofs.Dropping.{ask_empty}
use Rattle.prover.proofs.question.Search.begin.Goals as goal

pub returns-in-None : goal.returns-in-None
returns-in-None c = (ap answer_of (sym c.in-None.is) ∙ c.ask.ensures.right ∙ ask_empty _ _ _ _ num_empty, c.ask.ensures.same)

pub returns-in-Some : goal.returns-in-Some
returns-in-Some c =
    let s = c.ask.new.self in
    let k = c.ask.ensures in (
      num c.in-Some.m,
      ap answer_of (sym c.in-Some.is) ∙ k.right ∙ ask_empty _ _ _ _ num_empty,
      rw (ap (λ (s : Search). s.worlds.sets) (sym k.same)) c.set_row.ensures,
      ap (λ (s : Search). record s { worlds = record { count = 1; sets = c.set_row.new.table }; pair = first_pair }) k.same,
      k.keeps,
    )
