-- Whether an implication is realized, as the code tests it: a world that has one of its atoms, by one test; a world beyond another, where
-- nothing wanted is missing and nothing avoided is there.
use mathlib.Core.Bool.{Bool, not, false, ◌&&◌, ◌||◌}
use mathlib.Core.Logic.{◌⊎◌, inl, inr}
use mathlib.Core.Path.{◌≡◌, sym, ap, ap₂, ◌∙◌, subst}
use Prim.Native.Nat.{ℕ, ◌^◌, ◌<◌}
use native.Mathlib.Decide.{dec_lt}
use native.Mathlib.Omega.{arith}
use lib.Dec.{T, T_not, not_T, eqb, eqb→eq, eqb_refl}
use borrow.Author.Tests.{eq-eqb}
use Rattle.atoms.specs.Sets.{limit, has, union, common, minus, within, meets}
use Rattle.atoms.specs.Words.{single_or_empty}
use Rattle.atoms.proofs.Truth.{T_left, T_right, T_and, T_or, T_inl, T_inr, T_false, T_iff, T_dne, true_T, false_T}
use Rattle.atoms.proofs.Machine.{single_bits, has_single_or_empty}
use Rattle.atoms.proofs.Members.{ext, has_past, has_below, has_empty, has_and, has_union, has_minus, has_single, within_has, has_within, has_meets, meets_has}
use Rattle.ipl.specs.Clause.{Implication, beyond}

single_has : (i : ℕ) → i < limit → T (has (single_or_empty i) i)
single_has i h = rw (single_bits i h, has_single i i) (eqb_refl i)

module _ (M : ℕ) (bounded : M < 2 ^ limit) where
  single_meets : (i : ℕ) → meets (single_or_empty i) M ≡ has M i
  single_meets i =
      T_iff (meets (single_or_empty i) M) (has M i)
      (λ t. let r = meets_has (single_or_empty i) M t in subst (λ (k : ℕ). T (has M k)) (sym (has_single_or_empty i r.0 r.1)) r.2)
      (λ t. has_meets (single_or_empty i) M i (single_has i (has_below limit M i bounded t)) t)

  union_meets : (s t : ℕ) → meets (union s t) M ≡ meets s M || meets t M
  union_meets s t = T_iff (meets (union s t) M) (meets s M || meets t M) apart joined
    where
      apart : T (meets (union s t) M) → T (meets s M || meets t M)
      apart h = let r = meets_has (union s t) M h in elim (T_or (has s r.0) (has t r.0) (subst T (has_union s t r.0) r.1)) [
        | inl p ↦ T_inl (meets s M) (meets t M) (has_meets s M r.0 p r.2)
        | inr p ↦ T_inr (meets s M) (meets t M) (has_meets t M r.0 p r.2)
      ]

      joined : T (meets s M || meets t M) → T (meets (union s t) M)
      joined h = elim (T_or (meets s M) (meets t M) h) [
        | inl p ↦ let r = meets_has s M p in has_meets (union s t) M r.0 (subst T (sym (has_union s t r.0)) (T_inl (has s r.0) (has t r.0) r.1)) r.2
        | inr p ↦ let r = meets_has t M p in has_meets (union s t) M r.0 (subst T (sym (has_union s t r.0)) (T_inr (has s r.0) (has t r.0) r.1)) r.2
      ]

  -- M has one of three atoms.
  own_tested : (a b c : ℕ) → meets (union (union (single_or_empty a) (single_or_empty b)) (single_or_empty c)) M ≡ has M a || has M b || has M c
  own_tested a b c =
      union_meets (union (single_or_empty a) (single_or_empty b)) (single_or_empty c)
      ∙ ap₂ ◌||◌ (union_meets (single_or_empty a) (single_or_empty b) ∙ ap₂ ◌||◌ (single_meets a) (single_meets b)) (single_meets c)

  -- As the code joins them.
  pub own_met : (a b c : ℕ) {one two three pair own : ℕ} {r : Bool} → one ≡ single_or_empty a → two ≡ single_or_empty b → three ≡ single_or_empty c
      → pair ≡ union one two → own ≡ union pair three → r ≡ meets own M → r ≡ has M a || has M b || has M c
  own_met a b c e1 e2 e3 ep eo em = em ∙ ap (λ (z : ℕ). meets z M) (eo ∙ ap₂ union (ep ∙ ap₂ union e1 e2) e3) ∙ own_tested a b c

module _ (i : Implication) (M U : ℕ) where
  -- The atoms wanted, and what keeps U from being beyond M.
  wanted : ℕ
  wanted = union M (single_or_empty i.a)

  short : ℕ
  short = union (minus wanted U) (common (single_or_empty i.b) U)

  has_short : (j : ℕ) → T (has (minus wanted U) j) ⊎ T (has (common (single_or_empty i.b) U) j) → T (has short j)
  unfolding short
  has_short j (inl h) = subst T (sym (has_union (minus wanted U) (common (single_or_empty i.b) U) j)) (T_inl (has (minus wanted U) j) (has (common (single_or_empty i.b) U) j) h)
  has_short j (inr h) = subst T (sym (has_union (minus wanted U) (common (single_or_empty i.b) U) j)) (T_inr (has (minus wanted U) j) (has (common (single_or_empty i.b) U) j) h)

  module _ (t : T (beyond i M U)) where
    but_b : T (within M U && not (eqb M U) && has U i.a)
    unfolding beyond
    but_b = T_left (within M U && not (eqb M U) && has U i.a) (not (has U i.b)) t

    includes : T (within M U)
    includes = T_left (within M U) (not (eqb M U)) (T_left (within M U && not (eqb M U)) (has U i.a) but_b)

    has_a : T (has U i.a)
    has_a = T_right (within M U && not (eqb M U)) (has U i.a) but_b

    lacks_b : T (not (has U i.b))
    unfolding beyond
    lacks_b = T_right (within M U && not (eqb M U) && has U i.a) (not (has U i.b)) t

    wanted_in : (j : ℕ) → T (has wanted j) → T (has U j)
    unfolding wanted
    wanted_in j h = elim (T_or (has M j) (has (single_or_empty i.a) j) (subst T (has_union M (single_or_empty i.a) j) h)) [
      | inl m ↦ within_has M U includes j m
      | inr a ↦ subst (λ (k : ℕ). T (has U k)) (has_single_or_empty i.a j a) has_a
    ]

    avoided_out : (j : ℕ) → T (has (single_or_empty i.b) j) → T (has U j) → ⊥
    avoided_out j h u = T_not (has U i.b) lacks_b (subst (λ (k : ℕ). T (has U k)) (sym (has_single_or_empty i.b j h)) u)

    nothing_short : (j : ℕ) → has short j ≡ false
    unfolding short
    nothing_short j = T_false (has short j) (λ h.
        elim (T_or (has (minus wanted U) j) (has (common (single_or_empty i.b) U) j) (subst T (has_union (minus wanted U) (common (single_or_empty i.b) U) j) h)) [
          | inl p ↦ let q = subst T (has_minus wanted U j) p in T_not (has U j) (T_right (has wanted j) (not (has U j)) q) (wanted_in j (T_left (has wanted j) (not (has U j)) q))
          | inr p ↦ let q = subst T (has_and (single_or_empty i.b) U j) p in avoided_out j (T_left (has (single_or_empty i.b) j) (has U j) q) (T_right (has (single_or_empty i.b) j) (has U j) q)
        ])

  module _ (e : has M i.a ≡ false) (a-atom : i.a < limit) (bounded : U < 2 ^ limit) where
    module _ (z : short ≡ 0) where
      none_short : (j : ℕ) → T (has short j) → ⊥
      none_short j = false_T (ap (λ (s : ℕ). has s j) z ∙ has_empty j)

      in_wanted : (j : ℕ) → T (has wanted j) → T (has U j)
      in_wanted j h = T_dne (has U j) (λ n. none_short j (has_short j (inl (subst T (sym (has_minus wanted U j)) (T_and (has wanted j) (not (has U j)) h n)))))

      includes_all : T (within M U)
      unfolding wanted
      includes_all = has_within M U (λ j m. in_wanted j (subst T (sym (has_union M (single_or_empty i.a) j)) (T_inl (has M j) (has (single_or_empty i.a) j) m)))

      a_there : T (has U i.a)
      unfolding wanted
      a_there = in_wanted i.a (subst T (sym (has_union M (single_or_empty i.a) i.a)) (T_inr (has M i.a) (has (single_or_empty i.a) i.a) (single_has i.a a-atom)))

      differ : T (not (eqb M U))
      differ = not_T (eqb M U) (λ t. false_T e (subst (λ (s : ℕ). T (has s i.a)) (sym (eqb→eq M U t)) a_there))

      b_missing : T (not (has U i.b))
      b_missing = not_T (has U i.b) (λ t. elim (dec_lt i.b limit) [
        | yes l ↦
            let both = T_and (has (single_or_empty i.b) i.b) (has U i.b) (single_has i.b l) t in
            none_short i.b (has_short i.b (inr (subst T (sym (has_and (single_or_empty i.b) U i.b)) both)))
        | no l ↦ false_T (has_past limit U i.b bounded (omega arith)) t
      ])

      is_beyond : T (beyond i M U)
      unfolding beyond
      is_beyond =
          T_and (within M U && not (eqb M U) && has U i.a) (not (has U i.b))
          (T_and (within M U && not (eqb M U)) (has U i.a) (T_and (within M U) (not (eqb M U)) includes_all differ) a_there) b_missing

    pub beyond_tested : eqb (union (minus (union M (single_or_empty i.a)) U) (common (single_or_empty i.b) U)) 0 ≡ beyond i M U
    unfolding short wanted
    beyond_tested = T_iff (eqb short 0) (beyond i M U) (λ t. is_beyond (eqb→eq short 0 t)) (λ t. true_T (eq-eqb short 0 (ext short 0 (λ j. nothing_short t j ∙ sym (has_empty j)))))
