-- Laws of tables of clauses, and of the relations between sets bit by bit.
use Rattle.std.proofs.Common.{◌≡◌, ℕ, zero, suc, ◌+◌, ◌-◌, ◌<◌, min, max, Bool, true, false, not, ◌||◌, T, eqb, ◌↔◌, List, [], ◌∷◌, ◌++◌, sym, refl, ap, ◌∙◌, subst, ap₂, inl, inr, le_refl, not-suc-le-zero, add-one, arith, eqb→eq, T_not, eq-eqb}
use native.Mathlib.Decide.{dec_le, dec_lt}
use lib.Dec.{not_T}
use borrow.Author.Tests.{not-true}
use Rattle.atoms.specs.Sets.{bit_at, limit, union, common, minus, within, meets}
use Rattle.atoms.specs.Words.{single_or_empty, HighestOrEmpty, row_of, row_count, RowSet}
use Rattle.atoms.proofs.Truth.{T_left, T_right, T_and, T_or, T_false, T_iff, T_dne, true_T, false_T}
use Rattle.atoms.proofs.Bits.{bit_le, bit_zero, bit_other, bit_and_lem, bit_or_lem, bit_minus, bit_ext}
use Rattle.atoms.proofs.Machine.{single_bits, single_none}
use Rattle.atoms.proofs.Members.{has_bit, bit_has, within_bits, bits_within, has_meets, meets_has, without_highest_less}
use Rattle.ipl.specs.Clause.{satisfies}
use Rattle.ipl.specs.Lists.{All}
use Rattle.ipl.proofs.Lists.{All_tabulate, tabulate_more}
use Rattle.sat.specs.Table.{clause_at, clauses, all_hold, Apart, Meets, Holds, AllHold, Passed}

-- ---- the operations, by a result's equation

pub union_bits : (a b r : ℕ) → r ≡ union a b → (i : ℕ) → bit_at r i ≡ max (bit_at a i) (bit_at b i)
union_bits a b r e i = ap (λ (z : ℕ). bit_at z i) e ∙ bit_or_lem a b i

pub minus_bits : (a b r : ℕ) → r ≡ minus a b → (i : ℕ) → bit_at r i ≡ bit_at a i - bit_at b i
minus_bits a b r e i = ap (λ (z : ℕ). bit_at z i) e ∙ bit_minus a b i

-- The set of an atom has no other.
pub single_other : (a i : ℕ) → (a ≡ i → ⊥) → bit_at (single_or_empty a) i ≡ 0
single_other a i d = elim (dec_lt a limit) [
  | yes l ↦ ap (λ (z : ℕ). bit_at z i) (single_bits a l) ∙ bit_other a i d
  | no l ↦ ap (λ (z : ℕ). bit_at z i) (single_none a (omega arith)) ∙ bit_zero i
]

-- ---- the tests

pub meets_Meets : (a b : ℕ) → T (meets a b) → Meets a b
meets_Meets a b t = let r = meets_has a b t in (r.0, has_bit a r.0 r.1, has_bit b r.0 r.2)

Meets_meets : (a b : ℕ) → Meets a b → T (meets a b)
Meets_meets a b r = has_meets a b r.0 (bit_has a r.0 r.1) (bit_has b r.0 r.2)

pub apart_of : (a b : ℕ) → meets a b ≡ false → Apart a b
apart_of a b e i = elim (dec_le (bit_at a i + bit_at b i) 1) [
  | yes k ↦ k
  | no k ↦ absurd (false_T e (Meets_meets a b (i, omega (arith, bit_le a i, bit_le b i), omega (arith, bit_le a i, bit_le b i))))
]

pub meets_of : (a b : ℕ) → Apart a b → meets a b ≡ false
meets_of a b f = T_false (meets a b) (λ t. let w = meets_Meets a b t in omega (arith, w.1, w.2, f w.0))

-- What is apart from a union is apart from both; and a union from what both are.
pub union_apart : (a b c u : ℕ) → u ≡ union a b → Apart u c → Apart a c × Apart b c
union_apart a b c u e f = (λ i. omega (arith, union_bits a b u e i, f i), λ i. omega (arith, union_bits a b u e i, f i))

pub apart_union : (a b c u : ℕ) → u ≡ union a b → Apart a c → Apart b c → Apart u c
apart_union a b c u e f g i = omega (arith, union_bits a b u e i, f i, g i)

-- ---- passing over rows

module _ (Q : ℕ → Type 0) where
  pub passed_none : (from : ℕ) → Passed Q from from
  passed_none from = record { after = le_refl _; passed = λ i h l. absurd (omega arith) }

  pub passed_more : (from i : ℕ) → Passed Q from i → Q i → Passed Q from (i + 1)
  passed_more from i w q = record {
    after = omega (arith, w.after);
    passed = λ k h l. elim (dec_le (suc k) i) [
      | yes m ↦ w.passed k h m
      | no m ↦ let e : i ≡ k = omega arith in subst Q e q
    ];
  }

  pub passed_each : (R : ℕ → Type 0) → ((i : ℕ) → Q i → R i) → (from r : ℕ) → Passed Q from r → Passed R from r
  passed_each R f from r w = record { after = w.after; passed = λ i h l. f i (w.passed i h l) }

-- ---- one clause more

pub clauses_more : (left right left2 right2 : List ℕ) (k l r : ℕ) → RowSet left k l left2 → RowSet right k r right2 → k < row_count left → k < row_count right
    → clauses left2 right2 (k + 1) ≡ clauses left right k ++ (record { left = l; right = r } ∷ [])
unfolding clauses
clauses_more left right left2 right2 k l r hl hr kl kr =
    tabulate_more (clause_at left right) (clause_at left2 right2) (record { left = l; right = r }) k
    (λ i h. ap₂ (λ (x y : ℕ). record { left = x; right = y }) (hl.others i (λ e. omega arith)) (hr.others i (λ e. omega arith)))
    (ap₂ (λ (x y : ℕ). record { left = x; right = y }) (hl.written kl) (hr.written kr))

-- ---- truth of clauses

pub satisfies_holds : (l r m : ℕ) → T (satisfies m (record { left = l; right = r })) → Holds l r m
unfolding satisfies
satisfies_holds l r m t w = elim (T_or (not (within l m)) (meets r m) t) [
  | inl outside ↦ absurd (T_not (within l m) outside (bits_within l m w))
  | inr common ↦ meets_Meets r m common
]

holds_satisfies : (l r m : ℕ) → Holds l r m → T (satisfies m (record { left = l; right = r }))
unfolding satisfies
holds_satisfies l r m h = go (within l m) refl
  where
    go : (b : Bool) → within l m ≡ b → T (not b || meets r m)
    go false e = tt
    go true e = Meets_meets r m (h (within_bits l m (true_T e)))

-- By one test: l has an atom outside m, or r one in m.
pub satisfies_tested : (l r m : ℕ) → not (eqb (union (minus l m) (common r m)) 0) ≡ satisfies m (record { left = l; right = r })
satisfies_tested l r m = T_iff (not (eqb told 0)) (satisfies m (record { left = l; right = r })) to from
  where
    told : ℕ
    told = union (minus l m) (common r m)

    at : (i : ℕ) → bit_at told i ≡ max (bit_at l i - bit_at m i) (min (bit_at r i) (bit_at m i))
    at i = bit_or_lem (minus l m) (common r m) i ∙ ap₂ max (bit_minus l m i) (bit_and_lem r m i)

    to : T (not (eqb told 0)) → T (satisfies m (record { left = l; right = r }))
    to t = holds_satisfies l r m (λ w. meets_Meets r m (T_dne (meets r m) (λ n.
        let none = apart_of r m (T_false (meets r m) (T_not (meets r m) n)) in
        T_not (eqb told 0) t (true_T (eq-eqb told 0 (bit_ext told 0 (λ i. omega (arith, at i, w i, none i, bit_zero i))))))))

    from : T (satisfies m (record { left = l; right = r })) → T (not (eqb told 0))
    from t = not_T (eqb told 0) (λ z.
        let none : (i : ℕ) → bit_at told i ≡ 0 = λ i. ap (λ (x : ℕ). bit_at x i) (eqb→eq told 0 z) ∙ bit_zero i in
        let w = satisfies_holds l r m t (λ i. omega (arith, at i, none i)) in
        omega (arith, at w.0, none w.0, w.1, w.2))

module _ (left right : List ℕ) where
  all_hold_at : (m count : ℕ) → T (all_hold left right m count) → AllHold left right count m
  unfolding all_hold
  all_hold_at m zero t k l = absurd (not-suc-le-zero l)
  all_hold_at m (suc count) t k l = elim (dec_le (suc k) count) [
    | yes h ↦ all_hold_at m count (T_left (all_hold left right m count) (satisfies m (clause_at left right count)) t) k h
    | no h ↦ subst (λ (j : ℕ). Holds (row_of left j) (row_of right j) m) (omega arith)
        (satisfies_holds (row_of left count) (row_of right count) m (T_right (all_hold left right m count) (satisfies m (clause_at left right count)) t))
  ]

  all_hold_of : (m count : ℕ) → AllHold left right count m → T (all_hold left right m count)
  unfolding all_hold
  all_hold_of m zero h = tt
  all_hold_of m (suc count) h =
      T_and (all_hold left right m count) (satisfies m (clause_at left right count))
      (all_hold_of m count (λ k l. h k (omega arith))) (holds_satisfies (row_of left count) (row_of right count) m (h count (omega arith)))

  pub all_hold_iff : (m count : ℕ) → T (all_hold left right m count) ↔ AllHold left right count m
  all_hold_iff m count = (all_hold_at m count, all_hold_of m count)

  -- Row i, read as l and r, with its test's outcome.
  module _ (m i l r : ℕ) (el : l ≡ row_of left i) (er : r ≡ row_of right i) where
    pub row_holds : (count : ℕ) → i < count → AllHold left right count m → Holds l r m
    row_holds count k h = rw (el, er) (h i k)

    pub all_hold_next : all_hold left right m i ≡ true → satisfies m (record { left = l; right = r }) ≡ true → all_hold left right m (i + 1) ≡ true
    unfolding all_hold
    all_hold_next h e = rw (add-one i, ← el, ← er, h, e)

    pub all_hold_fails : (count : ℕ) → i < count → satisfies m (record { left = l; right = r }) ≡ false → all_hold left right m count ≡ false
    all_hold_fails count k e =
        T_false (all_hold left right m count) (λ t.
        false_T e (holds_satisfies l r m (row_holds count k (all_hold_at m count t))))

  pub all_hold_clauses : (m count : ℕ) → AllHold left right count m ↔ All (λ f. T (satisfies m f)) (clauses left right count)
  unfolding clauses
  all_hold_clauses m count =
      let each = All_tabulate (λ f. T (satisfies m f)) (clause_at left right) count in (
        λ h. each.1 (λ k l. holds_satisfies (row_of left k) (row_of right k) m (h k l)),
        λ h k l. satisfies_holds (row_of left k) (row_of right k) m (each.0 h k l),
      )

-- Without its highest atom a set is a smaller number.
pub taken_less : (s x r : ℕ) (b : Bool) → b ≡ eqb s 0 → not b ≡ true → HighestOrEmpty s x → r ≡ minus s x → r < s
taken_less s x r b e t h er = omega (arith, er, without_highest_less s x (sym e ∙ not-true b t) h)
