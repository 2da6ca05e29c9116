-- The pairs passed are realized.
use Prim.Native.Nat.{◌≤◌}
use Rattle.prover.specs.Working.{Passed}
use Rattle.prover.proofs.realization.next_pair.Given as goal

abbrev pub invariant-loop-world : goal.invariant-loop-world
invariant-loop-world l = (l.from ≤ l.x.count) × (Passed l.worlds l.x l.fn.p → Passed l.worlds l.x (record { world = l.world; implication = l.from }))
