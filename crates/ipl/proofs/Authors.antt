-- Laws of numbers of refusals that are judged one after the other: where none is met, every test is passed.
use mathlib.Core.Bool.{Bool, true, false, cond}
use mathlib.Core.Path.{◌≡◌, refl}
use Prim.Native.Nat.{ℕ, suc}
use native.Mathlib.Omega.{arith}
use Rattle.ipl.specs.Authors.{is_author, author_number}

pub passes_test : (test : Bool) (next refusal : ℕ) → cond test next (suc refusal) ≡ 0 → (test ≡ true) × (next ≡ 0)
passes_test true next refusal e = (refl, e)
passes_test false next refusal e = absurd (omega (arith, e))

pub author_zero : (a number : ℕ) → author_number a number ≡ 0 → (is_author a ≡ true) × (number ≡ 0)
author_zero a number = passes_test (is_author a) number 19
