-- The first number that fails a test.
use Rattle.std.specs.Prelude.{Bool, true, false, cond, ◌≡◌, ℕ, zero, suc, ◌<◌}
use Rattle.std.proofs.Math.Option.{Option, none, some, or_else}

-- The first number below `count` that fails a test.
unfoldable pub first_failing : (ℕ → Bool) → ℕ → Option ℕ
first_failing test zero = none
first_failing test (suc k) = or_else (first_failing test k) (cond (test k) none (some k))

-- i is the first number below `count` that fails the test.
pub record FirstFailing (test : ℕ → Bool) (count i : ℕ) : Type 0 where
  pub below : i < count
  pub fails : test i ≡ false
  pub before : (j : ℕ) → j < i → test j ≡ true
