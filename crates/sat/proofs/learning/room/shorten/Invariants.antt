-- Row after row is passed.
use Rattle.std.proofs.Common.{◌≡◌}
use Rattle.sat.specs.Learning.{Moved}
use Rattle.sat.proofs.learning.room.shorten.Given as goal

abbrev pub invariant-loop-c : goal.invariant-loop-c
invariant-loop-c l = let t = l.initial.t in
    (l.t.own ≡ t.own) × (l.t.total ≡ t.total) × Moved t.own t.left t.right t.total l.t.left l.t.right l.to l.c
