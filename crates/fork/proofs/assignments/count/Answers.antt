-- By the number of letters.
use mathlib.Core.Path.{◌≡◌, ap}
use Prim.Native.Nat.{ℕ, ◌^◌}
use native.Mathlib.Omega.{arith}
use Rattle.fork.specs.Fork.{set_count}
use Rattle.fork.proofs.assignments.count.Goals as goal

power : (k letters : ℕ) → k ≡ letters → set_count ^ k ≡ set_count ^ letters
power k letters e = ap (λ (k : ℕ). set_count ^ k) e

pub returns-in-0 : goal.returns-in-0
returns-in-0 c = power 0 _ (omega arith)

pub returns-in-1 : goal.returns-in-1
returns-in-1 c = power 1 _ (omega arith)

pub returns-in-2 : goal.returns-in-2
returns-in-2 c = power 2 _ (omega arith)

pub returns-in_default : goal.returns-in_default
returns-in_default c = power 3 _ (omega arith)
