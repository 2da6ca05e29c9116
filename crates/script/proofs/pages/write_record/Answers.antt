-- By the answer.
use Rattle.text.specs.Text.{ascii}
use Rattle.text.proofs.Appending.{both, nothing}
use Rattle.script.proofs.pages.write_record.Goals as goal

pub returns-in-Open : goal.returns-in-Open
returns-in-Open c = rw c.in-Open.is (nothing _)

pub returns-in-Valid : goal.returns-in-Valid
unfolding ascii
returns-in-Valid c = rw c.in-Valid.is c.figured.ensures

pub returns-in-Refuted : goal.returns-in-Refuted
unfolding ascii
returns-in-Refuted c = rw c.in-Refuted.is (both c.figured-in-Refuted.ensures c.worlds.ensures)

pub returns-in-RefutedBy : goal.returns-in-RefutedBy
unfolding ascii
returns-in-RefutedBy c = rw c.in-RefutedBy.is c.figured-in-RefutedBy.ensures

pub returns-in-Refused : goal.returns-in-Refused
unfolding ascii
returns-in-Refused c = rw c.in-Refused.is (rw (c.from.ensures, c.number.ensures) at c.figured-in-Refused.ensures)
