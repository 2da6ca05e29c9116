-- Finite Kripke models and forcing (document 01: "a Kripke model is any finite set of worlds .."; source 000, section 2).
use Rattle.std.specs.Prelude.{Bool, not, ◌&&◌, List, ◌⊎◌, ℕ, ◌<◌, T, eqb, length, get_or}
use Rattle.atoms.specs.Sets.{has, within}
use Rattle.ipl.specs.Clause.{bot, Flat, Implication}
use Rattle.ipl.specs.Formula.{Formula, letter, falsum, and, or, implies}

-- The worlds are the numbers below `count`; le is their order, and holds w i says that atom i is in the set of w.
pub record Model : Type 0 where
  pub count : ℕ
  pub root : ℕ
  pub le : ℕ → ℕ → Bool
  pub holds : ℕ → ℕ → Bool

-- "A reflexive transitive order with a least world (the root), and a persistent set of atoms for each world."
pub record IsModel (m : Model) : Type 0 where
  pub root_world : m.root < m.count
  pub reflexive : (u : ℕ) → u < m.count → T (m.le u u)
  pub transitive : (u v w : ℕ) → u < m.count → v < m.count → w < m.count → T (m.le u v) → T (m.le v w) → T (m.le u w)
  pub least : (u : ℕ) → u < m.count → T (m.le m.root u)
  pub persistent : (u v i : ℕ) → u < m.count → v < m.count → T (m.le u v) → T (m.holds u i) → T (m.holds v i)

-- P at every world of the model from w on.
abbrev pub From : Model → ℕ → (ℕ → Type 0) → Type 0
From m w P = (v : ℕ) → v < m.count → T (m.le w v) → P v

-- The world w forces the atom x; ⊥ is forced nowhere.
unfoldable pub forces_atom : Model → ℕ → ℕ → Bool
forces_atom m w x = not (eqb x bot) && m.holds w x

-- All atoms of the set s ("true if empty"); some atom of it.
abbrev pub ForcesEvery : Model → ℕ → ℕ → Type 0
ForcesEvery m w s = (i : ℕ) → T (has s i) → T (forces_atom m w i)

abbrev pub ForcesSome : Model → ℕ → ℕ → Type 0
ForcesSome m w s = (i : ℕ) × T (has s i) × T (forces_atom m w i)

-- "A flat clause is read as the implication from all of left (true if empty) to the disjunction of right."
abbrev pub ForcesFlat : Model → ℕ → Flat → Type 0
ForcesFlat m w f = From m w (λ v. ForcesEvery m v f.left → ForcesSome m v f.right)

-- (a → b) → c.
abbrev pub ForcesImplication : Model → ℕ → Implication → Type 0
ForcesImplication m w i =
    From m w (λ v. From m v (λ u. T (forces_atom m u i.a) → T (forces_atom m u i.b)) → T (forces_atom m v i.c))

-- Forcing of formulas: source 000, section 2.
unfoldable pub Forces : Model → ℕ → Formula → Type 0
Forces m w (letter l) = T (m.holds w l)
Forces m w falsum = ⊥
Forces m w (and p q) = Forces m w p × Forces m w q
Forces m w (or p q) = Forces m w p ⊎ Forces m w q
Forces m w (implies p q) = (v : ℕ) → v < m.count → T (m.le w v) → Forces m v p → Forces m v q

-- "The worlds shown, ordered by inclusion, form a model with the first as root."
abbrev pub shown : List ℕ → Model
shown W = record { count = length W; root = 0; le = λ u v. within (get_or W u 0) (get_or W v 0); holds = λ w i. has (get_or W w 0) i }
