-- The implications passed are realized.
use Prim.Native.Nat.{ℕ, ◌≤◌, ◌<◌}
use lib.Dec.{T}
use Rattle.prover.specs.Working.{realized_at}
use Rattle.prover.proofs.realization.first_at.Given as goal

abbrev pub invariant-loop-i : goal.invariant-loop-i
invariant-loop-i l = (j : ℕ) → l.from ≤ j → j < l.i → T (realized_at l.worlds l.x l.w j)
