-- A table of clauses, lent as two columns of sets.
use Rattle.std.specs.Prelude.{◌≡◌, ℕ, zero, suc, ◌+◌, ◌^◌, ◌<◌, ◌≤◌, Bool, true, ◌&&◌, List}
use Rattle.atoms.specs.Sets.{bit_at, limit}
use Rattle.atoms.specs.Words.{row_of}
use Rattle.ipl.specs.Clause.{Flat, satisfies}
use Rattle.ipl.specs.Lists.{tabulate}

-- Clause k.
abbrev pub clause_at : List ℕ → List ℕ → ℕ → Flat
clause_at left right k = record { left = row_of left k; right = row_of right k }

-- The first `count` clauses.
unfoldable pub clauses : List ℕ → List ℕ → ℕ → List Flat
clauses left right count = tabulate (clause_at left right) count

-- Each of them is true at m, as a test.
unfoldable pub all_hold : List ℕ → List ℕ → ℕ → ℕ → Bool
all_hold left right m zero = true
all_hold left right m (suc k) = all_hold left right m k && satisfies m (clause_at left right k)

-- Each atom of a is one of b; no atom is in both; some atom is in both: bit by bit, so that `omega` can be used.
abbrev pub Within : ℕ → ℕ → Type 0
Within a b = (i : ℕ) → bit_at a i ≤ bit_at b i

abbrev pub Apart : ℕ → ℕ → Type 0
Apart a b = (i : ℕ) → bit_at a i + bit_at b i ≤ 1

abbrev pub Meets : ℕ → ℕ → Type 0
Meets a b = (i : ℕ) × (bit_at a i ≡ 1) × (bit_at b i ≡ 1)

-- At m: if all of l hold, one of r holds.
abbrev pub Holds : ℕ → ℕ → ℕ → Type 0
Holds l r m = Within l m → Meets r m

-- Each of the first `count` clauses.
abbrev pub AllHold : List ℕ → List ℕ → ℕ → ℕ → Type 0
AllHold left right count m = (k : ℕ) → k < count → Holds (row_of left k) (row_of right k) m

-- r is from `from` on, and what Q says is so of all between them.
pub record Passed (Q : ℕ → Type 0) (from r : ℕ) : Type 0 where
  pub after : from ≤ r
  pub passed : (i : ℕ) → from ≤ i → i < r → Q i

-- No atom is in both, and both sets are bounded.
pub record Proper (y x : ℕ) : Type 0 where
  pub apart : Apart y x
  pub has_below : y < 2 ^ limit
  pub lacks_below : x < 2 ^ limit
