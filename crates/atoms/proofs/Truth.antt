-- Tests as statements: T b is the statement that the test b is true.
use mathlib.Core.Bool.{Bool, true, false, not, ◌&&◌, ◌||◌, cond}
use mathlib.Core.Path.{◌≡◌, refl, sym, subst}
use mathlib.Core.Logic.{◌⊎◌, inl, inr}
use lib.Dec.{T}

pub T_left : (a b : Bool) → T (a && b) → T a
T_left true b t = tt
T_left false b t = absurd t

pub T_right : (a b : Bool) → T (a && b) → T b
T_right true b t = t
T_right false b t = absurd t

pub T_and : (a b : Bool) → T a → T b → T (a && b)
T_and true b s t = t
T_and false b s t = absurd s

pub T_or : (a b : Bool) → T (a || b) → T a ⊎ T b
T_or true b t = inl tt
T_or false b t = inr t

pub T_inl : (a b : Bool) → T a → T (a || b)
T_inl true b t = tt
T_inl false b t = absurd t

pub T_inr : (a b : Bool) → T b → T (a || b)
T_inr true b t = tt
T_inr false b t = t

-- A test that is true or false, as an equation.
pub T_true : (a : Bool) → T a → a ≡ true
T_true true t = refl
T_true false t = absurd t

pub T_false : (a : Bool) → (T a → ⊥) → a ≡ false
T_false true t = absurd (t tt)
T_false false t = refl

pub true_T : {a : Bool} → a ≡ true → T a
true_T e = subst T (sym e) tt

pub false_T : {a : Bool} → a ≡ false → T a → ⊥
false_T e t = subst T e t

-- Two tests that imply each other are equal.
pub T_iff : (a b : Bool) → (T a → T b) → (T b → T a) → a ≡ b
T_iff true true f g = refl
T_iff true false f g = absurd (f tt)
T_iff false true f g = absurd (g tt)
T_iff false false f g = refl

-- A test whose failure is absurd is true.
pub T_dne : (a : Bool) → (T (not a) → ⊥) → T a
T_dne true f = tt
T_dne false f = f tt

-- Neither of two.
pub nor : (a b : Bool) → a || b ≡ false → (a ≡ false) × (b ≡ false)
nor true b e = absurd (false_T e tt)
nor false b e = (refl, e)

-- What holds of either choice, given the test's outcome, holds of the choice.
pub by_cond {ℓ} : {A : Type ℓ} (P : A → Type 0) (b : Bool) (x y : A) → (b ≡ true → P x) → (b ≡ false → P y) → P (cond b x y)
by_cond P true x y f g = f refl
by_cond P false x y f g = g refl
