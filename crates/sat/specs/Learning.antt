-- What rows learned by resolution say: no more than the table.
use Rattle.std.specs.Prelude.{◌≡◌, ℕ, ◌+◌, ◌*◌, ◌<◌, ◌≤◌, Bool, List, length}
use Rattle.atoms.specs.Words.{num, row_of, row_count}
use Rattle.sat.specs.Table.{Holds, AllHold}
use Rattle.sat.specs.Descent.{Told}
use Rattle.sat.specs.Rows.{EachHolds}
use Rattle.sat.specs.declared.Asked.{Asked}
use Rattle.sat.specs.declared.clauses.Clause.{Clause}
use Rattle.sat.specs.declared.clauses.Clauses.{Clauses}
use Rattle.sat.specs.declared.known.Partial.{Partial}
use Rattle.sat.specs.declared.learning.End.{End}
use Rattle.sat.specs.declared.learning.End.TheVariants as end
use Rattle.sat.specs.declared.learning.End.TheVariants.{Conflict, Model, Full}
use Rattle.sat.specs.declared.learning.table.Table.{Table}

-- A clause in hand is true at m.
abbrev pub ClauseHolds : Clause → ℕ → Type 0
ClauseHolds k m = Holds (num k.left) (num k.right) m

-- It is true wherever the rows are.
abbrev pub ClauseFollows : List ℕ → List ℕ → ℕ → Clause → Type 0
ClauseFollows left right total k = (m : ℕ) → AllHold left right total m → ClauseHolds k m

-- The rows of a second table are true wherever those of the first are.
abbrev pub Follow : List ℕ → List ℕ → ℕ → List ℕ → List ℕ → ℕ → Type 0
Follow left right count left2 right2 count2 = (m : ℕ) → AllHold left right count m → AllHold left2 right2 count2 m

-- The first `own` rows stay, and every row then there is true wherever the rows before were.
pub record Longer (own : ℕ) (left right : List ℕ) (total : ℕ) (left2 right2 : List ℕ) (total2 : ℕ) : Type 0 where
  pub own_left : (k : ℕ) → k < own → row_of left2 k ≡ row_of left k
  pub own_right : (k : ℕ) → k < own → row_of right2 k ≡ row_of right k
  pub enough : own ≤ total2
  pub follows : Follow left right total left2 right2 total2

-- A clause follows from the rows of a table.
abbrev pub Follows : Table → Clause → Type 0
Follows t k = ClauseFollows t.left t.right t.total k

-- A conflict that exploring ends with follows from the rows.
abbrev pub EndFollows : Table → End → Type 0
EndFollows t (Conflict k) = Follows t k.clause
EndFollows t (end.Learned c) = Unit {0}
EndFollows t (Model m) = Unit {0}
EndFollows t Full = Unit {0}

-- All rows stay, those behind them follow, and so does a conflict at the end.
pub record Explored (t t2 : Table) (e : End) : Type 0 where
  pub longer : Longer t.total t.left t.right t.total t2.left t2.right t2.total
  pub same_own : t2.own ≡ t.own
  pub end_follows : EndFollows t2 e

-- The rows of the question stay, and those behind them follow.
pub record Learned (t t2 : Table) : Type 0 where
  pub longer : Longer t.own t.left t.right t.total t2.left t2.right t2.total
  pub same_own : t2.own ≡ t.own

-- The first k rows kept in one table, the left and the right side of each in turn, are true at m.
abbrev pub KeptHold : List ℕ → ℕ → ℕ → Type 0
KeptHold kept k m = (i : ℕ) → i < k → Holds (row_of kept (2 * i)) (row_of kept (2 * i + 1)) m

-- They are true wherever the rows of a table are.
abbrev pub Kept : List ℕ → List ℕ → ℕ → List ℕ → ℕ → Type 0
Kept left right count kept k = (m : ℕ) → AllHold left right count m → KeptHold kept k m

-- The table stands first in the longer one, where there is room for it, and where the rows kept follow from it, so does the longer one.
pub record Filled (left right : List ℕ) (count : ℕ) (kept : List ℕ) (k : ℕ) (left2 right2 : List ℕ) (total : ℕ) : Type 0 where
  pub own_left : count ≤ total → (i : ℕ) → i < count → row_of left2 i ≡ row_of left i
  pub own_right : count ≤ total → (i : ℕ) → i < count → row_of right2 i ≡ row_of right i
  pub follows : Kept left right count kept k → Follow left right count left2 right2 total

-- Rows are moved down: those before c were passed, some of them stand before `to`, and those from c on stand where they stood.
pub record Moved (own : ℕ) (left right : List ℕ) (total : ℕ) (left2 right2 : List ℕ) (to c : ℕ) : Type 0 where
  pub begun : own ≤ to
  pub behind : to ≤ c
  pub left_size : length left2 ≡ length left
  pub right_size : length right2 ≡ length right
  pub own_left : (k : ℕ) → k < own → row_of left2 k ≡ row_of left k
  pub own_right : (k : ℕ) → k < own → row_of right2 k ≡ row_of right k
  pub rest_left : (k : ℕ) → c ≤ k → row_of left2 k ≡ row_of left k
  pub rest_right : (k : ℕ) → c ≤ k → row_of right2 k ≡ row_of right k
  pub follow : Follow left right total left2 right2 to

-- Row c is passed, whatever table was begun with.
pub record Passes (t t2 : Table) (to c to2 : ℕ) : Type 0 where
  pub same_own : t2.own ≡ t.own
  pub same_total : t2.total ≡ t.total
  pub moved : (own : ℕ) (left right : List ℕ) → t.total ≤ row_count left → t.total ≤ row_count right → Moved own left right t.total t.left t.right to c
      → Moved own left right t.total t2.left t2.right to2 (c + 1)

-- The table stands first in the longer one, and behind it rows kept.
pub record FilledBy (t : Clauses) (kept : List ℕ) (k : ℕ) (long : Table) : Type 0 where
  pub filled : Filled t.left.now t.right.now t.count kept k long.left long.right long.total
  pub same_own : long.own ≡ t.count

-- Where the rows kept follow from the table, the answer is right, and the rows then kept follow too.
abbrev pub ToldKeeping : Clauses → Partial → Bool → List ℕ → ℕ → List ℕ → Asked → Type 0
ToldKeeping t p smallest kept k kept2 r =
    Kept t.left.now t.right.now t.count kept k → Told (EachHolds t) p smallest r.answer × Kept t.left.now t.right.now t.count kept2 r.kept
