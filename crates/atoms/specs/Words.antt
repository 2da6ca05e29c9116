-- What the code's values stand for: a set is a number, a table is its rows. No crate above looks behind these names.
use Rattle.std.specs.Prelude.{◌≡◌, cond, List, ℕ, suc, ◌+◌, ◌^◌, ◌-◌, ◌≤◌, ◌<◌, min, ltb, length, get_or, Option, IfSome, IsSome, IsNone}
use Rattle.atoms.specs.Sets.{limit, single, Highest}
use Rattle.atoms.specs.declared.AtomSet.{AtomSet}

-- The number that a set is.
unfoldable pub num : AtomSet → ℕ
num s = s.bits

-- The set of all atoms.
unfoldable pub every_atom : ℕ
every_atom = 2 ^ limit - 1

-- The set of atom i alone; a number past the atoms, such as ⊥, is in no set.
unfoldable pub single_or_empty : ℕ → ℕ
single_or_empty i = cond (ltb i limit) (single i) 0

-- The set of all atoms below n.
unfoldable pub below : ℕ → ℕ
below n = 2 ^ min n limit - 1

-- The highest atom of s alone; of the empty set, the empty set.
pub record HighestOrEmpty (s x : ℕ) : Type 0 where
  pub empty : s ≡ 0 → x ≡ 0
  pub highest : 0 < s → Highest s x
  pub bounded : x < 2 ^ limit

-- Atom r is the highest of s; of the empty set, r is past all atoms.
pub record HighestNumber (s r : ℕ) : Type 0 where
  pub empty : s ≡ 0 → r ≡ limit
  pub member : 0 < s → single r ≤ s
  pub above : s < single (suc r)

-- r is the set with this number, where there is one.
pub record NumberIs (x : ℕ) (r : Option AtomSet) : Type 0 where
  pub some : x < 2 ^ limit → IfSome r (λ s. num s ≡ x) × IsSome r
  pub none : 2 ^ limit ≤ x → IsNone r

-- How many words a set takes in a table.
unfoldable pub words : ℕ
words = 1

-- How many sets a table of words holds, and the set in row i: past the end, the empty set.
unfoldable pub row_count : List ℕ → ℕ
row_count table = length table

unfoldable pub row_of : List ℕ → ℕ → ℕ
row_of table i = get_or table i 0

-- after is before with x in row i; past the end nothing is written.
pub record RowSet (before : List ℕ) (i x : ℕ) (after : List ℕ) : Type 0 where
  pub size : length after ≡ length before
  pub written : i < row_count before → row_of after i ≡ x
  pub others : (j : ℕ) → (j ≡ i → ⊥) → row_of after j ≡ row_of before j

-- after is before with the first `count` rows of `from` in the rows from `at` on; past the end nothing is written.
pub record RowsSet (before : List ℕ) (at : ℕ) (from : List ℕ) (count : ℕ) (after : List ℕ) : Type 0 where
  pub size : length after ≡ length before
  pub written : (i : ℕ) → i < count → at + i < row_count before → row_of after (at + i) ≡ row_of from i
  pub others : (j : ℕ) → ((i : ℕ) → i < count → j ≡ at + i → ⊥) → row_of after j ≡ row_of before j
