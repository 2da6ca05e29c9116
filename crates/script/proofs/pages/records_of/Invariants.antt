-- The records of the first goals have these goals.
use Rattle.std.proofs.Common.{◌≡◌, length, take}
use Rattle.prover.specs.Page.{goals_of}
use Rattle.script.specs.Reading.{goal_room}
use Rattle.script.proofs.pages.records_of.Given as goal

abbrev pub invariant-loop-i : goal.invariant-loop-i
invariant-loop-i l = record {
  size : length l.records ≡ goal_room;
  goals : goals_of (take l.i l.records) ≡ take l.i l.goals.rows;
}
