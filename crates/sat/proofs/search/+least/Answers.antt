-- Each answer cites a law of Descent.
use Rattle.std.proofs.Common.{suc, ◌^◌}
use Rattle.atoms.specs.Sets.{limit}
use Rattle.sat.proofs.Knowledge.{proper_room, room}
use Rattle.sat.proofs.Descent.{spent_answers, pick_open, false_room, false_least, false_none, true_room, true_answers}
use Rattle.sat.proofs.search.+least.Goals as goal

pub lacking-requires : goal.lacking-requires
lacking-requires t c =
    let cut = rw c.in-Some-Split.field-0-is at c.in-Some-Split.ensures in
    pick_open _ _ _ cut.pick _ cut.pick.open_has

pub having-requires : goal.having-requires
having-requires t c =
    let cut = rw c.in-Some-Split.field-0-is at c.in-Some-Split.ensures in
    pick_open _ _ _ cut.pick _ cut.pick.open_lacks

pub least-requires : goal.least-requires
least-requires t c =
    let cut = rw c.in-Some-Split.field-0-is at c.in-Some-Split.ensures in
    (room (2 ^ suc limit) _ _ _ (false_room _ _ _ _ cut _ c.lacking.ensures) (proper_room _ _ c.args.known.fair) c.decreases, tt)

pub least-requires-in-Blocked : goal.least-requires-in-Blocked
least-requires-in-Blocked t c =
    let cut = rw c.in-Some-Split.field-0-is at c.in-Some-Split.ensures in
    (room (2 ^ suc limit) _ _ _ (true_room _ _ _ _ cut _ c.having.ensures) (proper_room _ _ c.args.known.fair) c.decreases, tt)

pub returns-in-None : goal.returns-in-None
returns-in-None t c = spent_answers _ c.args.known c.args.conflicts c.spent.result c.in-None.ensures c.spent.ensures

pub returns-in-Least : goal.returns-in-Least
returns-in-Least t c =
    let cut = rw c.in-Some-Split.field-0-is at c.in-Some-Split.ensures in
    false_least _ _ _ _ cut _ c.lacking.ensures _ c.in-Least.ensures

pub returns-in-Blocked : goal.returns-in-Blocked
returns-in-Blocked t c =
    let cut = rw c.in-Some-Split.field-0-is at c.in-Some-Split.ensures in
    let first = c.in-Blocked.ensures in
    true_answers _ _ _ _ cut _ c.having.ensures (false_none _ _ _ _ cut _ c.lacking.ensures first.0) c.args.conflicts
    c.in-Blocked.more first.1 c.least-in-Blocked.result c.least-in-Blocked.ensures
