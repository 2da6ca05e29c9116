-- A row for it, or none.
use Rattle.std.proofs.Common.{◌≡◌, length, arith, rules}
use Rattle.script.specs.Reading.{goal_room}
use Rattle.script.proofs.Goals.{goal_kept, goal_dropped}
use Rattle.script.proofs.reading.Goals.push.Goals as goal

pub returns-then-self : goal.returns-then-self
returns-then-self c = λ gs h.
    let t = c.args.self.now in
    let size : length t.rows ≡ goal_room = search rules in
    goal_kept gs t h c.args.goal (omega arith) (omega (arith, size))

pub returns-else-self : goal.returns-else-self
returns-else-self c = λ gs h. goal_dropped gs _ h c.args.goal (omega arith)
