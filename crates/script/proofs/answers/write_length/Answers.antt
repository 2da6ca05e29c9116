-- By the length told.
use mathlib.Core.Path.{sym, ap, ◌∙◌}
use Rattle.text.specs.Text.{ascii}
use Rattle.text.proofs.Appending.{same_text}
use Rattle.script.specs.State.{length_line}
use Rattle.script.proofs.answers.write_length.Goals as goal

pub returns-in-Ok : goal.returns-in-Ok
unfolding ascii
returns-in-Ok c =
    same_text (sym (ap length_line (sym c.length_told.ensures ∙ c.in-Ok.is))) c.numbered.ensures

pub returns-in-Err : goal.returns-in-Err
returns-in-Err c =
    same_text (sym (ap length_line (sym c.length_told.ensures ∙ c.in-Err.is))) (rw c.number.ensures at c.refusal.ensures)
