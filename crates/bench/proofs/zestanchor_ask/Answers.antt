-- The answer of sat::ask, with the given set read from row 0 and the model written to it.
use mathlib.Core.Path.{refl, sym, ap, ◌∙◌}
use Rattle.atoms.specs.Words.{num}
use Rattle.sat.specs.Answer.{answer_of}
use Rattle.bench.proofs.zestanchor_ask.Goals as goal

pub returns-in-None : goal.returns-in-None
returns-in-None c =
    (rw (← c.row.ensures) (sym c.ask.ensures ∙ ap answer_of c.in-None.is), refl)

pub returns-in-Some : goal.returns-in-Some
returns-in-Some c =
    (num c.in-Some.m, rw (← c.row.ensures) (sym c.ask.ensures ∙ ap answer_of c.in-Some.is), c.set_row.ensures)
