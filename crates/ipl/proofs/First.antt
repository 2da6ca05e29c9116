-- The first number that fails a test is found, and it alone.
use mathlib.Core.Bool.{Bool, true, false, cond}
use mathlib.Core.Option.{Option, none, some, or_else}
use mathlib.Core.Path.{◌≡◌, refl, sym, ap, subst}
use Prim.Native.Nat.{ℕ, zero, suc, ◌<◌}
use native.Mathlib.Decide.{dec_le, dec_lt}
use native.Mathlib.Nat.{not-suc-le-zero}
use native.Mathlib.Omega.{arith}
use Rattle.ipl.specs.First.{first_failing, FirstFailing}

module _ (test : ℕ → Bool) where
  pub first_none : (count : ℕ) → ((j : ℕ) → j < count → test j ≡ true) → first_failing test count ≡ none
  unfolding first_failing or_else
  first_none zero h = refl
  first_none (suc k) h = rw (first_none k (λ j l. h j (omega arith)), h k (omega arith)) refl

  pub first_at_lem : (count i : ℕ) → i < count → ((j : ℕ) → j < i → test j ≡ true) → test i ≡ false → first_failing test count ≡ some i
  unfolding first_failing or_else
  first_at_lem zero i l h e = absurd (not-suc-le-zero l)
  first_at_lem (suc k) i l h e = elim (dec_le (suc i) k) [
    | yes m ↦ rw (first_at_lem k i m h e) refl
    | no m ↦ let here : i ≡ k = omega arith in
        rw (first_none k (λ j n. h j (omega arith)), subst (λ (z : ℕ). test z ≡ false) here e) (ap some (sym here))
  ]

-- What is said of an answer of `first_failing`.
abbrev pub FirstSaid : (ℕ → Bool) → ℕ → Option ℕ → Type 0
FirstSaid test count none = (j : ℕ) → j < count → test j ≡ true
FirstSaid test count (some i) = FirstFailing test count i

pub first_said : (test : ℕ → Bool) (count : ℕ) → FirstSaid test count (first_failing test count)
unfolding first_failing or_else
first_said test zero = λ j l. absurd (not-suc-le-zero l)
first_said test (suc k) = go (first_failing test k) (first_said test k)
  where
    last : FirstSaid test k none → (b : Bool) → test k ≡ b → FirstSaid test (suc k) (cond b none (some k))
    last h true e = λ j l. elim (dec_lt j k) [ yes m ↦ h j m | no m ↦ let d : k ≡ j = omega arith in subst (λ (z : ℕ). test z ≡ true) d e ]
    last h false e = record { below = omega arith; fails = e; before = h }

    go : (o : Option ℕ) → FirstSaid test k o → FirstSaid test (suc k) (or_else o (cond (test k) none (some k)))
    go none h = last h (test k) refl
    go (some i) h = record { below = omega (arith, h.below); fails = h.fails; before = h.before }
