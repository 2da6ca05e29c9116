-- The tests and the search that work out an implication.
use mathlib.Core.Bool.{Bool, true, false, not, cond, ◌||◌, or-true, and-false}
use mathlib.Core.Path.{◌≡◌, refl, sym, ap, ◌∙◌}
use Prim.Native.Nat.{ℕ, zero, suc, ◌+◌, ◌-◌, ◌≤◌, ◌<◌}
use native.Mathlib.Omega.{arith}
use Rattle.ipl.specs.Lists.{all, tabulate}
use Rattle.ipl.proofs.Lists.{all_next, all_fails, all_end}
use Rattle.fork.specs.Fork.{set_count}
use Rattle.fork.specs.Algebra.{meet, within, is_implication, number_with}

module _ (a b c : ℕ) where
  -- The set d lies within c, or its common part with a does not lie within b.
  abbrev below : ℕ → Bool
  below d = not (within (meet d a) b) || within d c

  -- The sets before d do.
  abbrev pub Passed : ℕ → Type 0
  Passed d = all below (tabulate (λ d. d) d) ≡ true

  pub not_such : within (meet c a) b ≡ false → false ≡ is_implication a b c
  unfolding is_implication
  not_such e = rw e

  pub not_greatest : (d : ℕ) → d < set_count → within (meet d a) b ≡ true → within d c ≡ false → false ≡ is_implication a b c
  unfolding is_implication
  not_greatest d h e f = rw (all_fails below (λ d. d) d set_count h (rw (e, f))) (sym (and-false (within (meet c a) b)))

  pub none_passed : Passed 0
  unfolding all tabulate
  none_passed = refl

  pub passed_outside : (d : ℕ) → Passed d → within (meet d a) b ≡ false → Passed (d + 1)
  passed_outside d p e = all_next below (λ d. d) d p (rw e)

  pub passed_within : (d : ℕ) → Passed d → within d c ≡ true → Passed (d + 1)
  passed_within d p e = all_next below (λ d. d) d p (rw e (or-true (not (within (meet d a) b))))

  pub greatest : (d : ℕ) → d ≤ set_count → set_count ≤ d → Passed d → within (meet c a) b ≡ true → true ≡ is_implication a b c
  unfolding is_implication
  greatest d h k p e = rw e (all_end below (λ d. d) d set_count h k p)

module _ (test : ℕ → Bool) where
  pub number_here : (c : ℕ) → test c ≡ true → c ≡ number_with test (suc c)
  unfolding number_with
  number_here c e = rw e

  pub number_below_lem : (c : ℕ) → 0 < c → test c ≡ false → number_with test (suc c) ≡ number_with test (suc (c - 1))
  unfolding number_with
  number_below_lem c h e = rw e (ap (number_with test) {x = c} {y = suc (c - 1)} (omega arith))

  pub number_last : (c : ℕ) → c ≤ 0 → 0 ≡ number_with test (suc c)
  unfolding number_with
  number_last c h = either (test 0) ∙ ap (λ (n : ℕ). number_with test (suc n)) {x = 0} {y = c} (omega arith)
    where
      either : (x : Bool) → zero ≡ cond x zero zero
      either true = refl
      either false = refl
