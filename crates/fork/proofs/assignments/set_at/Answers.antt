-- By the place.
use mathlib.Core.Path.{◌≡◌, sym, ap, ◌∙◌}
use Prim.Native.Nat.{ℕ, ◌-◌, ◌/◌, ◌%◌, ◌^◌}
use native.Mathlib.Nat.{div-one}
use native.Mathlib.Omega.{arith}
use Rattle.fork.specs.Fork.{set_count}
use Rattle.fork.specs.Cells.{set_at}
use Rattle.fork.proofs.assignments.set_at.Goals as goal

-- From the power of the digit.
by_power : (n place x : ℕ) → x ≡ 2 - place → n / set_count ^ x % set_count ≡ set_at n place
unfolding set_at
by_power n place x e = ap (λ (x : ℕ). n / set_count ^ x % set_count) e

pub returns-in-0 : goal.returns-in-0
returns-in-0 c = by_power _ _ 2 (omega arith)

pub returns-in-1 : goal.returns-in-1
returns-in-1 c = by_power _ _ 1 (omega arith)

pub returns-in_default : goal.returns-in_default
returns-in_default c = ap (λ (n : ℕ). n % set_count) (sym (div-one _)) ∙ by_power _ _ 0 (omega arith)
