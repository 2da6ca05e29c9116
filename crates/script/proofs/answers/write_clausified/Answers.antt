-- By the number.
use Rattle.text.specs.Text.{ascii}
use Rattle.script.proofs.Refusals.{clausified_refused}
use Rattle.script.proofs.answers.write_clausified.Goals as goal

pub returns-in-Ok : goal.returns-in-Ok
unfolding ascii
returns-in-Ok c = rw c.in-Ok.is (rw c.from.ensures at c.numbered.ensures)

pub returns-in-Err : goal.returns-in-Err
returns-in-Err c = rw c.in-Err.is (clausified_refused _ c.number.ensures _ c.place.ensures c.refusal.ensures)
