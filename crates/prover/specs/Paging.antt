-- What taking a record of a page makes of the session, the models found, and the record.
use Rattle.std.specs.Prelude.{◌++◌, ◌≡◌, ℕ, ◌+◌, ◌≤◌}
use Rattle.prover.specs.Page.{found_in, models_of, GoalDone}
use Rattle.prover.specs.declared.Session.{Session}
use Rattle.prover.specs.declared.GoalRecord.{GoalRecord}
use Rattle.prover.specs.declared.paging.Models.{Models}

-- The record x at place i is then y, where author a put it to s, and these models were found before it.
pub record RecordAnswered (s : Session) (a i : ℕ) (before : Models) (x : GoalRecord) (t : Session) (after : Models) (y : GoalRecord) : Type 0 where
  pub done : GoalDone s a (models_of before) x y t
  pub found : models_of after ≡ models_of before ++ found_in i y
  pub few : after.count ≤ before.count + 1
