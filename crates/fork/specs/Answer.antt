-- What the call answers, and that it is right.
use Rattle.std.specs.Prelude.{Bool, List, [], ◌∷◌, ◌⊎◌, ◌↔◌, ◌≡◌, ℕ, ◌≤◌, ◌<◌, length, take, Option, Result, Ok, Err}
use Rattle.std.specs.Option.{unwrap_or}
use Rattle.ipl.specs.Lists.{All}
use Rattle.ipl.specs.Formula.{Formula}
use Rattle.ipl.specs.Kripke.{IsModel, Forces}
use Rattle.refusal.specs.Numbers.{number_of, place_of}
use Rattle.refusal.specs.declared.Refusal.{Refusal}
use Rattle.syntax.specs.Refusal as text
use Rattle.fork.specs.Fork.{fork, valuation, whole}
use Rattle.fork.specs.Screen.{letters, set_of, most_letters, Screening, refused, passes, falls}
use Rattle.fork.specs.declared.LetterSets.{LetterSets}
use Rattle.fork.specs.declared.Screened.{Screened}
use Rattle.fork.specs.declared.Screened.TheVariants.{Passes, Falls}

-- The sets of the letters.
abbrev pub sets_of : LetterSets → List ℕ
sets_of r = take r.letters r.sets

-- What an answer tells. Sets are told of a formula that falls, and of no other; the place is 0 where a refusal has none.
abbrev pub told_of : Screened → Screening
told_of Passes = passes
told_of (Falls sets) = falls (sets_of sets)

-- By what a refusal of any type tells.
abbrev pub told_with : {E : Type 0} → (E → ℕ) → (E → Option ℕ) → Result Screened E → Screening
told_with number place (Err e) = refused (number e) (unwrap_or (place e) 0)
told_with number place (Ok r) = told_of r

abbrev pub told : Result Screened Refusal → Screening
told = told_with number_of place_of

abbrev pub ScreenedAs : Screening → Result Screened Refusal → Type 0
ScreenedAs o r = told r ≡ o

-- "No valuation on this fork refutes the formula": its root forces it under each.
abbrev pub HoldsOnFork : Formula → Type 0
HoldsOnFork f = (holds : ℕ → ℕ → Bool) → IsModel (fork holds) → Forces (fork holds) 0 f

-- The letters of a formula with these sets.
abbrev pub on_letters : Formula → List ℕ → ℕ → ℕ → Bool
on_letters f sets = valuation (set_of (letters f) sets)

-- Sets of k letters.
abbrev pub IsAssignment : ℕ → List ℕ → Type 0
IsAssignment k sets = (length sets ≡ k) × All (λ s. s ≤ whole) sets

-- "Sets in rising number, the first letter slowest": at the first letter at which they differ, a has the set with the smaller number.
abbrev pub Before : List ℕ → List ℕ → Type 0
Before [] b = ⊥
Before (x ∷ a) [] = ⊥
Before (x ∷ a) (y ∷ b) = (x < y) ⊎ ((x ≡ y) × Before a b)

-- These sets are a valuation of the fork whose root does not force the formula, and the first such.
pub record FirstRefuting (f : Formula) (sets : List ℕ) : Type 0 where
  pub assigned : IsAssignment (length (letters f)) sets
  pub model : IsModel (fork (on_letters f sets))
  pub unforced : Forces (fork (on_letters f sets)) 0 f → ⊥
  pub first : (b : List ℕ) → IsAssignment (length (letters f)) b → Before b sets → Forces (fork (on_letters f b)) 0 f

-- A formula that can be screened.
pub record Screenable (s : List ℕ) (f : Formula) : Type 0 where
  pub accepted : text.Accepted s f
  pub few : length (letters f) ≤ most_letters

-- "Then 22 for more than three letters."
pub record TooManyLetters (s : List ℕ) (number place : ℕ) : Type 0 where
  pub formula : Formula
  pub accepted : text.Accepted s formula
  pub many : most_letters < length (letters formula)
  pub number_is : number ≡ 22
  pub place_is : place ≡ 0

-- What is told says of the text.
abbrev pub Says : List ℕ → Screening → Type 0
Says s (refused number place) = text.Refused s number place ⊎ TooManyLetters s number place
Says s passes = (f : Formula) × Screenable s f × HoldsOnFork f
Says s (falls sets) = (f : Formula) × Screenable s f × FirstRefuting f sets

-- For every text, and every answer as the contract states it.
pub record ScreenRight (s : List ℕ) (r : Result Screened Refusal) : Type 0 where
  pub says : Says s (told r)
  -- "One passes exactly if no valuation on this fork refutes the formula."
  pub passes_exactly : (f : Formula) → Screenable s f → (r ≡ Ok Passes) ↔ HoldsOnFork f
