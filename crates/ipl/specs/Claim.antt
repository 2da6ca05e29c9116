-- What makes derivation steps and worlds right (document 01: The answer sheet), and what a countermodel is.
use Rattle.std.specs.Prelude.{not, List, [], ◌∷◌, ◌++◌, ◌≡◌, ℕ, ◌^◌, ◌<◌, T, length, get_or}
use Rattle.std.proofs.Math.Option.{none}
use Rattle.atoms.specs.Sets.{has, within}
use Rattle.ipl.specs.Lists.{All, Distinct}
use Rattle.ipl.specs.Clause.{Flat, Implication, satisfies, realizes}
use Rattle.ipl.specs.Question.{ask}
use Rattle.ipl.specs.Search.{Step, implication_at, known}
use Rattle.ipl.specs.Kripke.{Model, IsModel, forces_atom, ForcesFlat, ForcesImplication}

-- A finite Kripke model that "holds at its root the clauses .., without the goal".
pub record Countermodel (F : List Flat) (X : List Implication) (g : ℕ) (m : Model) : Type 0 where
  pub model : IsModel m
  pub flats : All (ForcesFlat m m.root) F
  pub implications : All (ForcesImplication m m.root) X
  pub lacks : T (forces_atom m m.root g) → ⊥

-- After the steps P the step s is right: "the flat clauses with the first k learned clauses and A prove b".
pub record StepRight (n : ℕ) (F : List Flat) (X : List Implication) (P : List Step) (s : Step) : Type 0 where
  pub number : s.number < length X
  pub below : s.assumed < 2 ^ n
  pub proves : ask n (known F X P) s.assumed (implication_at X s.number).b ≡ none

-- "For each k": every step of S is right after P and the steps of S before it.
abbrev pub StepsRight : ℕ → List Flat → List Implication → List Step → List Step → Type 0
StepsRight n F X P [] = Unit {0}
StepsRight n F X P (s ∷ S) = StepRight n F X P s × StepsRight n F X (P ++ (s ∷ [])) S

-- A derivation: the steps are right, "and at the end all prove the goal".
pub record Derivation (n : ℕ) (F : List Flat) (X : List Implication) (g : ℕ) (S : List Step) : Type 0 where
  pub steps : StepsRight n F X [] S
  pub goal : ask n (known F X S) 0 g ≡ none

-- A world M of W "includes the first, satisfies the flat clauses and realizes each implication".
pub record WorldRight (F : List Flat) (X : List Implication) (W : List ℕ) (M : ℕ) : Type 0 where
  pub includes : T (within (get_or W 0 0) M)
  pub flats : All (λ f. T (satisfies M f)) F
  pub implications : All (λ i. T (realizes W M i)) X

-- Conditions (i) and (ii) of Proposition 2 of source 000.
pub record Refuting (F : List Flat) (X : List Implication) (g : ℕ) (W : List ℕ) : Type 0 where
  pub some : 0 < length W
  pub each : All (WorldRight F X W) W
  pub lacks : T (not (has (get_or W 0 0) g))

-- "Worlds are right if they differ, each includes the first .., and the first lacks the goal."
pub record WorldsRight (F : List Flat) (X : List Implication) (g : ℕ) (W : List ℕ) : Type 0 where
  pub distinct : Distinct W
  pub refuting : Refuting F X g W
