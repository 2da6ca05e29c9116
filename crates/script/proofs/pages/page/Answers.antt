-- Refused, or record after record.
use Rattle.script.proofs.Performing.{goals_there, goals_few, page_made}
use Rattle.script.proofs.Refusals.{page_refused}
use Rattle.script.proofs.pages.page.Goals as goal

pub unwrap-goals-requires : goal.unwrap-goals-requires
unwrap-goals-requires c = goals_there _ c.requires.0 c.requires.1 _ c.read_goals.ensures

pub records_of-records-requires : goal.records_of-records-requires
records_of-records-requires c = goals_few _ c.requires.0 c.requires.1 _ (rw c.unwrap-goals.ensures at c.read_goals.ensures)

pub returns-in-Ok : goal.returns-in-Ok
returns-in-Ok c = λ gs e.
    page_made _ gs e _ (rw c.unwrap-goals.ensures at c.read_goals.ensures) c.page.result c.records_of-records.ensures c.page.ensures.paged
    (rw c.in-Ok.is c.write_records.ensures)

pub returns-in-Err : goal.returns-in-Err
returns-in-Err c = λ gs e.
    page_made _ gs e _ (rw c.unwrap-goals.ensures at c.read_goals.ensures) c.page.result c.records_of-records.ensures c.page.ensures.paged
    (rw c.in-Err.is (page_refused _ c.number.ensures c.page.new.records c.refusal.ensures))
