-- What is left to count falls.
use Rattle.std.proofs.Common.{◌-◌, ◌≤◌}
use Rattle.streams.proofs.count.Given as goal

abbrev pub invariant-loop-counted : goal.invariant-loop-counted
invariant-loop-counted g l = l.counted ≤ l.most

abbrev pub decreases-loop-counted : goal.decreases-loop-counted
decreases-loop-counted g l = l.most - l.counted
