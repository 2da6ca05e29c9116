-- The classical question "do R and A prove b" (document 01: "R, A proves b" means classically).
use Rattle.std.specs.Prelude.{Bool, not, cond, ◌&&◌, List, ℕ, zero, suc, ◌+◌, ◌^◌, ◌<◌, T}
use Rattle.std.proofs.Math.Option.{Option, none, some, or_else}
use Rattle.atoms.specs.Sets.{has, within}
use Rattle.ipl.specs.Lists.{all, All}
use Rattle.ipl.specs.Clause.{Flat, satisfies}

-- m "is a model of R, includes A, and lacks b".
unfoldable pub counters : List Flat → ℕ → ℕ → ℕ → Bool
counters R A b m = within A m && not (has m b) && all (satisfies m) R

-- The least x with base ≤ x < base + 2 ^ n that passes the test: without the highest atom first, then with it.
unfoldable pub least : (ℕ → Bool) → ℕ → ℕ → Option ℕ
least p zero base = cond (p base) (some base) none
least p (suc n) base = or_else (least p n base) (least p n (base + 2 ^ n))

-- The answer to the question: none is yes; some m is no, with "the smallest number" that counters, over n atoms.
unfoldable pub ask : ℕ → List Flat → ℕ → ℕ → Option ℕ
ask n R A b = least (counters R A b) n 0

-- The same as a statement: m is a number below 2 ^ n that counters.
pub record Counters (n : ℕ) (R : List Flat) (A b m : ℕ) : Type 0 where
  pub below : m < 2 ^ n
  pub includes : T (within A m)
  pub lacks : T (not (has m b))
  pub satisfied : All (λ f. T (satisfies m f)) R
