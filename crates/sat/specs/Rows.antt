-- Tables of clauses as the code lends them.
use Rattle.std.specs.Prelude.{◌≡◌, ℕ, Bool, false, List}
use Rattle.atoms.specs.Words.{num, row_of}
use Rattle.sat.specs.Table.{Holds, AllHold, Passed}
use Rattle.sat.specs.declared.clauses.Clause.{Clause}
use Rattle.sat.specs.declared.clauses.Clauses.{Clauses}

-- k is clause i.
pub record RowIs (left right : List ℕ) (i : ℕ) (k : Clause) : Type 0 where
  pub left_is : num k.left ≡ row_of left i
  pub right_is : num k.right ≡ row_of right i

-- Each clause is true at m.
abbrev pub EachHolds : Clauses → ℕ → Type 0
EachHolds t = AllHold t.left.now t.right.now t.count

-- Each clause from `from` on and before r was tested, and is not looked for.
abbrev pub Missed : (Clause → Bool → Type 0) → Clauses → ℕ → ℕ → Type 0
Missed post t = Passed (λ i. (k : Clause) × RowIs t.left.now t.right.now i k × post k false)

-- Each of them is true at m.
abbrev pub PassedHolding : Clauses → ℕ → ℕ → ℕ → Type 0
PassedHolding t m = Passed (λ i. Holds (row_of t.left.now i) (row_of t.right.now i) m)
