-- Clauses that fail, then all, until all hold or nothing changes; what is left unknown falls with each.
use Rattle.std.proofs.Common.{suc, ◌+◌, ◌-◌, ◌^◌}
use Rattle.atoms.specs.Sets.{limit}
use Rattle.atoms.specs.Words.{num}
use Rattle.sat.specs.Rows.{EachHolds}
use Rattle.sat.specs.Knowledge.{Learns}
use Rattle.sat.proofs.propagation.propagate.Given as goal

abbrev pub invariant-loop-r : goal.invariant-loop-r
invariant-loop-r l = Learns (EachHolds l.t) l.initial.q l.q

abbrev pub decreases-loop-r : goal.decreases-loop-r
decreases-loop-r l = 2 ^ suc limit - (num l.q.has + num l.q.lacks)
