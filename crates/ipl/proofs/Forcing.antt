-- Theorem 7: forcing of formulas is decidable and persistent.
use mathlib.Core.Bool.{Bool, true, false, not, ◌&&◌, ◌||◌}
use mathlib.Core.Logic.{inl, inr, ◌↔◌}
use mathlib.Core.Path.{◌≡◌, refl, sym, subst}
use Prim.Native.Nat.{ℕ, zero, suc, ◌<◌}
use native.Mathlib.Nat.{not-suc-le-zero}
use native.Mathlib.Omega.{arith}
use lib.Arith.{lt_of_le-ne}
use lib.Dec.{T, eqb}
use borrow.Author.Tests.{eqb-true, eqb-false}
use Rattle.atoms.proofs.Truth.{T_left, T_right, T_and, T_or, T_inl, T_inr}
use Rattle.ipl.specs.Formula.{Formula, letter, falsum, and, or, implies}
use Rattle.ipl.specs.Kripke.{Model, IsModel, Forces}

-- ---- a test at every number below n

all_below : ℕ → (ℕ → Bool) → Bool
all_below zero p = true
all_below (suc n) p = p n && all_below n p

below_all : (n : ℕ) (p : ℕ → Bool) → T (all_below n p) → (i : ℕ) → i < n → T (p i)
unfolding all_below
below_all zero p t i h = absurd (not-suc-le-zero h)
below_all (suc n) p t i h = go (below_all n p (T_right (p n) (all_below n p) t) i) (eqb i n) refl
  where
    go : (i < n → T (p i)) → (b : Bool) → eqb i n ≡ b → T (p i)
    go ih true e = subst (λ (k : ℕ). T (p k)) (sym (eqb-true i n e)) (T_left (p n) (all_below n p) t)
    go ih false e = ih (lt_of_le-ne (omega arith) (eqb-false i n e))

all_below_lem : (n : ℕ) (p : ℕ → Bool) → ((i : ℕ) → i < n → T (p i)) → T (all_below n p)
unfolding all_below
all_below_lem zero p f = tt
all_below_lem (suc n) p f = T_and (p n) (all_below n p) (f n (omega arith)) (all_below_lem n p (λ i h. f i (omega arith)))

-- ---- implication of tests

arrow : Bool → Bool → Bool
arrow a b = not a || b

arrow_T : (a b : Bool) → T (arrow a b) → T a → T b
unfolding arrow
arrow_T true b t s = t
arrow_T false b t s = absurd s

T_arrow : (a b : Bool) → (T a → T b) → T (arrow a b)
unfolding arrow
T_arrow true b f = f tt
T_arrow false b f = tt

module _ (m : Model) where
  -- The test for forcing.
  pub forces_test : ℕ → Formula → Bool
  forces_test w (letter l) = m.holds w l
  forces_test w falsum = false
  forces_test w (and p q) = forces_test w p && forces_test w q
  forces_test w (or p q) = forces_test w p || forces_test w q
  forces_test w (implies p q) = all_below m.count (λ v. arrow (m.le w v) (arrow (forces_test v p) (forces_test v q)))

  from_T : (w : ℕ) (p q : ℕ → Bool) → T (all_below m.count (λ v. arrow (m.le w v) (arrow (p v) (q v))))
      → (v : ℕ) → v < m.count → T (m.le w v) → T (p v) → T (q v)
  from_T w p q t v lv l s =
      arrow_T (p v) (q v) (arrow_T (m.le w v) (arrow (p v) (q v)) (below_all m.count (λ v. arrow (m.le w v) (arrow (p v) (q v))) t v lv) l) s

  T_from : (w : ℕ) (p q : ℕ → Bool) → ((v : ℕ) → v < m.count → T (m.le w v) → T (p v) → T (q v))
      → T (all_below m.count (λ v. arrow (m.le w v) (arrow (p v) (q v))))
  T_from w p q f =
      all_below_lem m.count (λ v. arrow (m.le w v) (arrow (p v) (q v))) (λ v lv. T_arrow (m.le w v) (arrow (p v) (q v)) (λ l. T_arrow (p v) (q v) (f v lv l)))

  pub forces_tested : (f : Formula) (w : ℕ) → T (forces_test w f) ↔ Forces m w f
  unfolding forces_test Forces
  forces_tested (letter l) w = (λ t. t, λ t. t)
  forces_tested falsum w = (λ t. t, λ t. t)
  forces_tested (and p q) w = (
    λ t. ((forces_tested p w).0 (T_left (forces_test w p) (forces_test w q) t), (forces_tested q w).0 (T_right (forces_test w p) (forces_test w q) t)),
    λ s. T_and (forces_test w p) (forces_test w q) ((forces_tested p w).1 s.0) ((forces_tested q w).1 s.1),
  )
  forces_tested (or p q) w = (
    λ t. elim (T_or (forces_test w p) (forces_test w q) t) [ inl h ↦ inl ((forces_tested p w).0 h) | inr h ↦ inr ((forces_tested q w).0 h) ],
    λ s. elim s [
      | inl h ↦ T_inl (forces_test w p) (forces_test w q) ((forces_tested p w).1 h)
      | inr h ↦ T_inr (forces_test w p) (forces_test w q) ((forces_tested q w).1 h)
    ],
  )
  forces_tested (implies p q) w = (
    λ t v lv l s. (forces_tested q v).0 (from_T w (λ u. forces_test u p) (λ u. forces_test u q) t v lv l ((forces_tested p v).1 s)),
    λ h. T_from w (λ u. forces_test u p) (λ u. forces_test u q) (λ v lv l s. (forces_tested q v).1 (h v lv l ((forces_tested p v).0 s))),
  )

  pub forces_decidable : (f : Formula) (w : ℕ) → Dec (Forces m w f)
  forces_decidable f w = go (forces_test w f) (forces_tested f w)
    where
      go : (b : Bool) → T b ↔ Forces m w f → Dec (Forces m w f)
      go true e = yes (e.0 tt)
      go false e = no e.1

  pub forces_persistent : IsModel m → (f : Formula) (u v : ℕ) → u < m.count → v < m.count → T (m.le u v) → Forces m u f → Forces m v f
  unfolding Forces
  forces_persistent ok (letter l) u v lu lv e t = ok.persistent u v l lu lv e t
  forces_persistent ok falsum u v lu lv e t = t
  forces_persistent ok (and p q) u v lu lv e t = (forces_persistent ok p u v lu lv e t.0, forces_persistent ok q u v lu lv e t.1)
  forces_persistent ok (or p q) u v lu lv e t = elim t [
    | inl h ↦ inl (forces_persistent ok p u v lu lv e h)
    | inr h ↦ inr (forces_persistent ok q u v lu lv e h)
  ]
  forces_persistent ok (implies p q) u v lu lv e t = λ w lw k s. t w lw (ok.transitive u v w lu lv lw e k) s
