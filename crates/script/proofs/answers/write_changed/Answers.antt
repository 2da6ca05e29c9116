-- By the number.
use Rattle.text.specs.Text.{ascii}
use Rattle.script.proofs.Refusals.{changed_refused}
use Rattle.script.proofs.answers.write_changed.Goals as goal

pub returns-in-Ok : goal.returns-in-Ok
unfolding ascii
returns-in-Ok c = rw c.in-Ok.is c.word.ensures

pub returns-in-Err : goal.returns-in-Err
returns-in-Err c = rw c.in-Err.is (changed_refused _ c.number.ensures c.refusal.ensures)
