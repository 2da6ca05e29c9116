-- What is known grows with each clause that fails, until none does.
use Rattle.std.proofs.Common.{suc, ◌+◌, ◌-◌, ◌^◌, ◌≤◌}
use Rattle.atoms.specs.Sets.{limit}
use Rattle.atoms.specs.Words.{num}
use Rattle.sat.specs.Rows.{EachHolds}
use Rattle.sat.specs.Knowledge.{Learns}
use Rattle.sat.proofs.propagation.raise.Given as goal

abbrev pub invariant-loop-i : goal.invariant-loop-i
invariant-loop-i l = Learns (EachHolds l.t) l.initial.q l.q × (l.t.count ≤ l.i → EachHolds l.t (num l.q.has))

abbrev pub decreases-loop-i : goal.decreases-loop-i
decreases-loop-i l = 2 ^ suc limit - (num l.q.has + num l.q.lacks)
