-- What the functions of the table give: a part has a row, or there is no room for one.
use Rattle.std.specs.Prelude.{List, ◌≡◌, ℕ, ◌≤◌, ◌<◌, length, Option, Some, None}
use Rattle.syntax.specs.Nodes.{Connective, And, Implies, Entry, falsum, compound, Named, index_of, with_entry}
use Rattle.syntax.specs.Parts.{held, room}
use Rattle.syntax.specs.declared.Parts.{Parts}

-- The row of an entry, where the table has one.
abbrev pub Found : List Entry → Entry → Option ℕ → Type 0
Found T e (Some row) = (row ≡ index_of e T) × (row < length T)
Found T e None = length T ≤ index_of e T

-- The code's table is the one named, and the row that of its root.
pub record Holds (n : Named) (q : Parts) (root : ℕ) : Type 0 where
  pub table : held q ≡ n.table
  pub root_is : root ≡ n.root

-- A part was named; or the table has no room for it.
abbrev pub Names : Named → Parts → Option ℕ → Type 0
Names n q (Some root) = Holds n q root
Names n q None = room < length n.table

-- The compound of an operand with this index and the one after it.
abbrev pub with_compound : Connective → ℕ → List Entry → ℕ → Named
with_compound c a T b = with_entry T (compound c a b)

-- `~p` as p > 0.
unfoldable pub with_negation : List Entry → ℕ → Named
with_negation T a =
    let z = with_entry T falsum in
    with_entry z.table (compound Implies a z.root)

-- p = q as (p > q) & (q > p).
unfoldable pub with_equivalence : ℕ → List Entry → ℕ → Named
with_equivalence a T b =
    let x = with_entry T (compound Implies a b) in
    let y = with_entry x.table (compound Implies b a) in
    with_entry y.table (compound And x.root y.root)
