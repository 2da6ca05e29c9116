-- What is known grows with each clause that says something; passing over the others is never wrong.
use Rattle.std.proofs.Common.{◌-◌}
use Rattle.sat.specs.Rows.{EachHolds}
use Rattle.sat.specs.Knowledge.{Learns}
use Rattle.sat.proofs.propagation.sweep.Given as goal

abbrev pub invariant-loop-i : goal.invariant-loop-i
invariant-loop-i l = Learns (EachHolds l.t) l.initial.q l.q

abbrev pub decreases-loop-i : goal.decreases-loop-i
decreases-loop-i l = l.t.count - l.i
