-- By the mean told.
use mathlib.Core.Path.{sym, ap, ◌∙◌}
use Rattle.prover.specs.PerVerdict.{per_verdict}
use Rattle.text.specs.Text.{ascii}
use Rattle.text.proofs.Appending.{same_text, both}
use Rattle.script.specs.State.{mean_line}
use Rattle.script.proofs.Refusals.{refused_appended}
use Rattle.script.proofs.answers.write_mean.Goals as goal

pub returns-in-Ok : goal.returns-in-Ok
unfolding ascii
returns-in-Ok c =
    same_text (ap mean_line (sym (ap per_verdict c.in-Ok.is) ∙ c.mean.ensures))
    (both (both (rw c.from.ensures at c.figure.ensures) (rw c.from-in-Ok.ensures at c.figure-in-Ok.ensures)) c.word.ensures)

pub returns-in-Err : goal.returns-in-Err
returns-in-Err c =
    same_text (ap mean_line (sym (ap per_verdict c.in-Err.is) ∙ c.mean.ensures)) (refused_appended _ c.number.ensures c.refusal.ensures)
