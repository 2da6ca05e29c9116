-- The clauses passed are true at m.
use Rattle.std.proofs.Common.{◌≡◌, true}
use Rattle.atoms.specs.Words.{num}
use Rattle.sat.specs.Table.{all_hold}
use Rattle.sat.proofs.propagation.each_holds.Given as goal

abbrev pub invariant-loop-k : goal.invariant-loop-k
invariant-loop-k l = all_hold l.t.left.now l.t.right.now (num l.m) l.k ≡ true
