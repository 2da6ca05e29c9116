-- The value of a formula is the set of the worlds that force it.
use mathlib.Core.Bool.{Bool, false, cond, ◌||◌}
use mathlib.Core.Logic.{inl, inr, ◌↔◌}
use mathlib.Core.Path.{◌≡◌, refl, sym, subst, ◌∙◌}
use Prim.Native.Nat.{ℕ, zero, suc, ◌≤◌, ◌<◌}
use native.Mathlib.Omega.{arith}
use lib.Dec.{T, eqb, eqb→eq}
use borrow.Author.Tests.{eq-eqb, ne_eqb}
use Rattle.atoms.specs.Sets.{has}
use Rattle.atoms.proofs.Truth.{T_left, T_right, T_and, T_or, T_inl, T_inr, T_true, true_T, false_T, by_cond}
use Rattle.atoms.proofs.Members.{has_empty, set_of, set_of_lt, has_set_of}
use Rattle.ipl.specs.Formula.{Formula, letter, falsum, and, or, implies}
use Rattle.ipl.specs.Kripke.{IsModel, Forces}
use Rattle.fork.specs.Fork.{tips, below, fork, whole, member, valuation}
use Rattle.fork.specs.Algebra.{value}
use Rattle.fork.proofs.Operations.{member_meet, member_join, member_implication, member_upward, meet_set, join_set, implication_set}

-- ---- the value of a formula

empty_member : (w : ℕ) → T (member 0 w) → ⊥
unfolding member
empty_member zero t = t
empty_member (suc i) t = false_T (has_empty i) t

module _ (holds : ℕ → ℕ → Bool) (v : ℕ → ℕ) (sets : (l : ℕ) → v l ≤ whole) (same : (w l : ℕ) → w < suc tips → holds w l ≡ member (v l) w) where
  value_set : (f : Formula) → value v f ≤ whole
  unfolding value
  value_set (letter l) = sets l
  value_set falsum = omega arith
  value_set (and p q) = meet_set (value v p) (value v q) (value_set p) (value_set q)
  value_set (or p q) = join_set (value v p) (value v q) (value_set p) (value_set q)
  value_set (implies p q) = implication_set (value v p) (value v q) (value_set p) (value_set q)

  pub forces_value : (f : Formula) (w : ℕ) → w < suc tips → T (member (value v f) w) ↔ Forces (fork holds) w f
  unfolding value Forces
  forces_value (letter l) w hw = (subst T (sym (same w l hw)), subst T (same w l hw))
  forces_value falsum w hw = (empty_member w, absurd)
  forces_value (and p q) w hw = rw (member_meet (value v p) (value v q) w (value_set p) (value_set q) hw) (
    λ t. (
      (forces_value p w hw).0 (T_left (member (value v p) w) (member (value v q) w) t),
      (forces_value q w hw).0 (T_right (member (value v p) w) (member (value v q) w) t),
    ),
    λ s. T_and (member (value v p) w) (member (value v q) w) ((forces_value p w hw).1 s.0) ((forces_value q w hw).1 s.1),
  )
  forces_value (or p q) w hw = rw (member_join (value v p) (value v q) w (value_set p) (value_set q) hw) (
    λ t. elim (T_or (member (value v p) w) (member (value v q) w) t) [
      | inl h ↦ inl ((forces_value p w hw).0 h)
      | inr h ↦ inr ((forces_value q w hw).0 h)
    ],
    λ s. elim s [
      | inl h ↦ T_inl (member (value v p) w) (member (value v q) w) ((forces_value p w hw).1 h)
      | inr h ↦ T_inr (member (value v p) w) (member (value v q) w) ((forces_value q w hw).1 h)
    ],
  )
  forces_value (implies p q) w hw =
      let e = member_implication (value v p) (value v q) w (value_set p) (value_set q) hw in (
        λ t u hu l s. (forces_value q u hu).0 (e.0 t u hu l ((forces_value p u hu).1 s)),
        λ f. e.1 (λ u hu l s. (forces_value q u hu).1 (f u hu l ((forces_value p u hu).0 s))),
      )

  pub root_forces : (f : Formula) → T (eqb (value v f) whole) ↔ Forces (fork holds) 0 f
  unfolding member
  root_forces f = forces_value f 0 (omega arith)

-- ---- sets give a model

pub valuation_model : (v : ℕ → ℕ) → IsModel (fork (valuation v))
valuation_model v = record {
  root_world = omega arith;
  reflexive = λ u hu. T_inr (eqb u 0) (eqb u u) (true_T (eq-eqb u u refl));
  transitive = λ u w x hu hw hx k l. elim (T_or (eqb u 0) (eqb u w) k) [
    | inl e ↦ T_inl (eqb u 0) (eqb u x) e
    | inr e ↦ subst (λ (y : ℕ). T (below y x)) (sym (eqb→eq u w e)) l
  ];
  least = λ u hu. tt;
  persistent = λ u w i hu hw. member_upward (v i) u w;
}

-- ---- a model gives sets

-- The tips at which a letter holds.
tips_from : (ℕ → ℕ → Bool) → ℕ → ℕ
tips_from holds l = set_of tips (λ i. holds (suc i) l)

-- The worlds at which it holds, where the valuation is persistent: all, if the root is one.
pub sets_from : (ℕ → ℕ → Bool) → ℕ → ℕ
sets_from holds l = cond (holds 0 l) whole (tips_from holds l)

tips_less : (holds : ℕ → ℕ → Bool) (l : ℕ) → tips_from holds l < whole
unfolding tips_from
tips_less holds l = set_of_lt tips (λ i. holds (suc i) l)

pub from_set : (holds : ℕ → ℕ → Bool) (l : ℕ) → sets_from holds l ≤ whole
unfolding sets_from
from_set holds l =
    by_cond (λ (s : ℕ). s ≤ whole) (holds 0 l) whole (tips_from holds l) (λ e. omega arith) (λ e. omega (arith, tips_less holds l))

tips_not_whole : (holds : ℕ → ℕ → Bool) (l : ℕ) → eqb (tips_from holds l) whole ≡ false
tips_not_whole holds l = ne_eqb (tips_from holds l) whole (λ e. omega (arith, tips_less holds l))

pub from_same : (holds : ℕ → ℕ → Bool) → IsModel (fork holds) → (w l : ℕ) → w < suc tips → holds w l ≡ member (sets_from holds l) w
unfolding member sets_from tips_from
from_same holds m zero l hw =
    by_cond (λ (s : ℕ). holds 0 l ≡ eqb s whole) (holds 0 l) whole (tips_from holds l) (λ e. e) (λ e. e ∙ sym (tips_not_whole holds l))
from_same holds m (suc i) l hw =
    by_cond (λ (s : ℕ). holds (suc i) l ≡ eqb s whole || has s i) (holds 0 l) whole (tips_from holds l)
    (λ e. T_true (holds (suc i) l) (m.persistent 0 (suc i) l (omega arith) hw tt (true_T e)))
    (λ e. rw (tips_not_whole holds l) (sym (has_set_of tips (λ i. holds (suc i) l) i (omega arith))))
