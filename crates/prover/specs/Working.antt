-- The search in code: what is realized, and the clauses known.
use Rattle.std.specs.Prelude.{Bool, false, List, Option, Some, None, ◌≡◌, ℕ, ◌+◌, ◌≤◌, ◌<◌, T, length}
use Rattle.atoms.specs.Sets.{limit, minus}
use Rattle.atoms.specs.Words.{row_of, row_count, single_or_empty}
use Rattle.ipl.specs.Clause.{Flat, realizes}
use Rattle.ipl.specs.Question.{ask}
use Rattle.ipl.specs.Search.{is_none, known}
use Rattle.ipl.specs.Range.{flat_table, step_table, implication_table, implication_in_range}
use Rattle.prover.specs.State.{byte_at, implication_row, flats_of, implications_of, steps_of, worlds_of}
use Rattle.sat.specs.Learning as learning
use Rattle.sat.specs.Table.{clause_at, clauses}
use Rattle.prover.specs.declared.Flats.{Flats}
use Rattle.prover.specs.declared.Implications.{Implications}
use Rattle.prover.specs.declared.Steps.{Steps}
use Rattle.prover.specs.declared.Worlds.{Worlds}
use Rattle.prover.specs.declared.realization.Pair.{Pair}
use Rattle.prover.specs.declared.working.Kept.{Kept}
use Rattle.prover.specs.declared.working.Known.{Known}

-- The implications are in range over n atoms.
pub record Usable (n : ℕ) (x : Implications) : Type 0 where
  pub few : n ≤ limit
  pub count : x.count ≤ implication_table
  pub rows : (i : ℕ) → i < x.count → T (implication_in_range n (implication_row x i))

-- The first of each implication's three is an atom.
abbrev pub FirstAtoms : Implications → Type 0
FirstAtoms x = (i : ℕ) → i < x.count → (implication_row x i).a < limit

-- World w realizes implication i within the worlds.
abbrev pub realized_at : Worlds → Implications → ℕ → ℕ → Bool
realized_at W x w i = realizes (worlds_of W) (row_of W.sets w) (implication_row x i)

-- Implication r is the first from `from` on that world w does not realize.
pub record FoundAt (W : Worlds) (w : ℕ) (x : Implications) (from r : ℕ) : Type 0 where
  pub after : from ≤ r
  pub bounded : r < x.count
  pub passed : (i : ℕ) → from ≤ i → i < r → T (realized_at W x w i)
  pub found : realized_at W x w r ≡ false

-- The first implication from `from` on that world w does not realize, or none.
abbrev pub FirstAt : Worlds → ℕ → Implications → ℕ → Option ℕ → Type 0
FirstAt W w x from None = (i : ℕ) → from ≤ i → i < x.count → T (realized_at W x w i)
FirstAt W w x from (Some r) = FoundAt W w x from r

-- The pair that point 2 looks at first: the first world and the first implication.
abbrev pub first_pair : Pair
first_pair = record { world = 0; implication = 0 }

-- Every pair before p is realized: worlds in order, and for each the implications.
pub record Passed (W : Worlds) (x : Implications) (p : Pair) : Type 0 where
  pub worlds : (w i : ℕ) → w < p.world → i < x.count → T (realized_at W x w i)
  pub implications : (i : ℕ) → i < p.implication → T (realized_at W x p.world i)

-- Every pair is realized.
abbrev pub AllRealized : Worlds → Implications → Type 0
AllRealized W x = (w i : ℕ) → w < W.count → i < x.count → T (realized_at W x w i)

-- q is the first pair from p on that is not realized.
pub record FoundPair (W : Worlds) (x : Implications) (p q : Pair) : Type 0 where
  pub passed : Passed W x p → Passed W x q
  pub world : q.world < W.count
  pub number : q.implication < x.count
  pub found : realized_at W x q.world q.implication ≡ false

-- The first pair from p on that is not realized, or none.
abbrev pub NextPair : Worlds → Implications → Pair → Option Pair → Type 0
NextPair W x p None = Passed W x p → AllRealized W x
NextPair W x p (Some q) = FoundPair W x p q

-- R and B prove b, as a test of B.
abbrev pub proves : ℕ → List Flat → ℕ → ℕ → Bool
proves n R b B = is_none (ask n R B b)

-- The rows kept follow from the first `count` clauses.
abbrev pub Follows : Known → ℕ → Kept → Type 0
Follows k count kept = learning.Kept k.left k.right count kept.table kept.rows

-- The row of a learned clause, as the code writes it for implication i and the set assumed.
abbrev pub learned_row : Implications → ℕ → ℕ → Flat
learned_row x i assumed = record { left = minus assumed (single_or_empty (implication_row x i).a); right = single_or_empty (implication_row x i).c }

-- There is room for the clauses of the steps, and their numbers are those of implications.
pub record StepsFit (left right : List ℕ) (flats : ℕ) (steps : Steps) (x : Implications) : Type 0 where
  pub flats_room : flats ≤ flat_table
  pub left_room : flats + steps.count ≤ row_count left
  pub right_room : flats + steps.count ≤ row_count right
  pub count : steps.count ≤ step_table
  pub implications : x.count ≤ implication_table
  pub numbers : (k : ℕ) → k < steps.count → byte_at steps.numbers k < x.count

-- The flat clauses stay, and the clauses of the first k steps follow them.
pub record StepsWritten (left right : List ℕ) (flats : ℕ) (steps : Steps) (x : Implications) (k : ℕ) (left2 right2 : List ℕ) : Type 0 where
  pub left_size : length left2 ≡ length left
  pub right_size : length right2 ≡ length right
  pub flats_stay : (i : ℕ) → i < flats → clause_at left2 right2 i ≡ clause_at left right i
  pub learned_follow : (j : ℕ) → j < k → clause_at left2 right2 (flats + j) ≡ learned_row x (byte_at steps.numbers j) (row_of steps.assumed j)

-- The flat clauses and the steps fit, and the numbers of the steps are those of implications.
pub record StepsKnown (flats : Flats) (steps : Steps) (x : Implications) : Type 0 where
  pub few_flats : flats.count ≤ flat_table
  pub few_steps : steps.count ≤ step_table
  pub implications : x.count ≤ implication_table
  pub numbers : (k : ℕ) → k < steps.count → byte_at steps.numbers k < x.count

-- All clauses known are in the tables: the flat clauses, then those of the steps.
pub record KnownWritten (flats : Flats) (steps : Steps) (x : Implications) (k : Known) : Type 0 where
  pub left_rows : row_count k.left ≡ flat_table + step_table
  pub right_rows : row_count k.right ≡ flat_table + step_table
  pub flat_rows : clauses k.left k.right flats.count ≡ flats_of flats
  pub known_rows : clauses k.left k.right (flats.count + steps.count) ≡ known (flats_of flats) (implications_of x) (steps_of steps)
