-- The terms in which the functions that work out a table's parts speak to each other. The values stand in rows, one for each part; a row
-- has 17 cells, one for each set of the last letter.
use Rattle.std.specs.Prelude.{Bool, true, false, Option, Some, None, List, ◌≡◌, ℕ, ◌+◌, ◌*◌, ◌-◌, ◌/◌, ◌%◌, ◌^◌, ◌≤◌, ◌<◌, eqb, length, get_or}
use native.Mathlib.Bridge.{le_prop}
use native.Mathlib.Nat.{ℕ_set}
use Rattle.ipl.specs.First.{first_failing}
use Rattle.syntax.specs.Nodes.{Connective, And, Or, Implies, Entry, letter, falsum, compound, formula_at, Earlier, WellOrdered, Once}
use Rattle.syntax.specs.Letters.{letters_of, letter_count}
use Rattle.syntax.specs.Parts.{held, room, Sound}
use Rattle.syntax.specs.declared.Parts.{Parts}
use Rattle.fork.specs.Fork.{whole, set_count}
use Rattle.fork.specs.Algebra.{meet, join, implication, value}
use Rattle.fork.specs.Screen.{assignment, set_of, Screening, falls_at, most_letters}

abbrev pub connected_sets : Connective → ℕ → ℕ → ℕ
connected_sets And a b = meet a b
connected_sets Or a b = join a b
connected_sets Implies a b = implication a b

-- ---- a table's parts under an assignment

-- The value of part i under the assignment with number n.
unfoldable pub value_at : List Entry → ℕ → ℕ → ℕ
value_at T n i = value (set_of (letters_of T) (assignment (letter_count T) n)) (formula_at T i)

-- The answer for the part `root`.
unfoldable pub screened_at : List Entry → ℕ → Screening
screened_at T root = falls_at (letter_count T) (first_failing (λ n. eqb (value_at T n root) whole) (set_count ^ letter_count T))

-- The reader's table, with so many letters, few enough.
pub record Tabled (p : Parts) (letters : ℕ) : Type 0 where
  pub sound : Sound p
  pub ordered : WellOrdered (held p)
  pub once : Once (held p)
  pub count : letters ≡ letter_count (held p)
  pub few : letters ≤ most_letters

-- It is a fact.
earlier_prop : (i : ℕ) (e : Entry) → IsProp (Earlier i e)
earlier_prop i (letter l) = hlevel
earlier_prop i falsum = hlevel
earlier_prop i (compound c a b) = hlevel le_prop

pub tabled_prop : (p : Parts) (letters : ℕ) → IsProp (Tabled p letters)
tabled_prop p letters = hlevel (earlier_prop, le_prop, ℕ_set)

-- ---- cells

-- The cells of so many rows.
abbrev pub cells : ℕ → ℕ
cells rows = rows * set_count

abbrev pub cell_at : List ℕ → ℕ → ℕ → ℕ
cell_at C i j = get_or C (cells i + j) 0

-- The set of a letter in the assignment with number n; the last of three letters stands at place 2.
unfoldable pub set_at : ℕ → ℕ → ℕ
set_at n place = n / set_count ^ (2 - place) % set_count

-- The value of an entry in the column j, from the rows before it; a letter has this place.
abbrev pub entry_value : List ℕ → ℕ → ℕ → ℕ → Entry → ℕ
entry_value C j n place (letter l) = set_at n place
entry_value C j n place falsum = 0
entry_value C j n place (compound c a b) = connected_sets c (cell_at C a j) (cell_at C b j)

-- Room for every row, and only sets in the cells.
pub record Cells (C : List ℕ) : Type 0 where
  pub sized : length C ≡ cells room
  pub sets : (k : ℕ) → get_or C k 0 ≤ whole

-- The value of an entry can be had from the rows before i, in the column j.
pub record Readable (C : List ℕ) (i : ℕ) (e : Entry) (j : ℕ) : Type 0 where
  pub good : Cells C
  pub inside : i < room
  pub earlier : Earlier i e
  pub column : j < set_count

-- A row that can be written, under 17 assignments from number n on.
pub record Writable (C : List ℕ) (i : ℕ) (e : Entry) (n : ℕ) : Type 0 where
  pub good : Cells C
  pub inside : i < room
  pub earlier : Earlier i e
  pub numbered : n ≤ set_count ^ most_letters

-- It was written, and the rows before it are as they were.
pub record Written (C : List ℕ) (i : ℕ) (e : Entry) (n place : ℕ) (D : List ℕ) : Type 0 where
  pub good : Cells D
  pub row : (j : ℕ) → j < set_count → cell_at D i j ≡ entry_value C j (n + j) place e
  pub kept : (k : ℕ) → k < cells i → get_or D k 0 ≡ get_or C k 0

-- Every row holds the values of its part under 17 assignments, the first of number n.
pub record Filled (T : List Entry) (n : ℕ) (C : List ℕ) : Type 0 where
  pub good : Cells C
  pub values : (i j : ℕ) → i < length T → j < set_count → cell_at C i j ≡ value_at T (n + j) i

-- The first of 17 columns in which a test fails; below it, it passes.
pub record FirstFailing (test : ℕ → Bool) (r : ℕ) : Type 0 where
  pub inside : r < set_count
  pub before : (j : ℕ) → j < r → test j ≡ true
  pub fails : test r ≡ false

abbrev pub FirstOf : (ℕ → Bool) → Option ℕ → Type 0
FirstOf test None = (j : ℕ) → j < set_count → test j ≡ true
FirstOf test (Some r) = FirstFailing test r

-- Where a cell of the row has not the whole; where the part has not, from number n on.
abbrev pub FirstBelow : List ℕ → ℕ → Option ℕ → Type 0
FirstBelow C i r = FirstOf (λ j. eqb (cell_at C i j) whole) r

abbrev pub FirstIn : List Entry → ℕ → ℕ → Option ℕ → Type 0
FirstIn T root n r = FirstOf (λ j. eqb (value_at T (n + j) root) whole) r
