-- What is read of a whole sheet is judged.
use mathlib.Core.Path.{sym, ap, ◌∙◌}
use Rattle.judgement.proofs.Fitting.{judged_whole}
use Rattle.zestanchor.specs.Tasks.{task_number}
use Rattle.zestanchor.proofs.Tasks.{done_as}
use Rattle.zestanchor.proofs.zestanchor.Goals as goal

pub returns-in-Ok-Check : goal.returns-in-Ok-Check
returns-in-Ok-Check c =
    done_as _ 2 _ _ _ _ (sym c.in-Ok-Check.ensures ∙ ap task_number c.in-Ok-Check.field-0-is) (judged_whole c.judge.ensures)
