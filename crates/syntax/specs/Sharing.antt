-- What change 4 says of names, for every formula. It follows from the table's definition (proofs/Sharing.antt).
use Rattle.std.specs.Prelude.{List, [], ◌∷◌, ◌++◌, ◌≡◌, ℕ, ◌<◌, length, get_or}
use Rattle.ipl.specs.Formula.{Formula, letter, falsum, and, or, implies}
use Rattle.syntax.specs.Nodes.{nodes, formulas_after, formula_at}

-- The parts of a formula, each where it is complete.
unfoldable pub completed : Formula → List Formula
completed (letter l) = letter l ∷ []
completed falsum = falsum ∷ []
completed (and p q) = completed p ++ (completed q ++ (and p q ∷ []))
completed (or p q) = completed p ++ (completed q ++ (or p q ∷ []))
completed (implies p q) = completed p ++ (completed q ++ (implies p q ∷ []))

abbrev pub StandsIn : List Formula → Formula → Type 0
StandsIn m p = (i : ℕ) × (i < length m) × (get_or m i falsum ≡ p)

-- m has each formula of l once, at the first of its places.
pub data Firsts : List Formula → List Formula → Type 0 where
  none : Firsts [] []
  new : (l m : List Formula) (p : Formula) → Firsts l m → (StandsIn m p → ⊥) → Firsts (l ++ (p ∷ [])) (m ++ (p ∷ []))
  again : (l m : List Formula) (p : Formula) → Firsts l m → StandsIn m p → Firsts (l ++ (p ∷ [])) m

pub record NamesOf (f : Formula) : Type 0 where
  -- "Two parts that are the same formula .. have one name": rows with the same formula are one row.
  pub one : (i j : ℕ) → i < length (nodes f).table → j < length (nodes f).table → formula_at (nodes f).table i ≡ formula_at (nodes f).table j → i ≡ j
  -- ".. made where the first of them is complete": the rows are the first of each.
  pub firsts : Firsts (completed f) (formulas_after [] (nodes f).table)
