-- Each entry stands once in a formula's table: its row is the one at which it is found.
use mathlib.Core.Bool.{true, cond, ◌&&◌}
use mathlib.Core.List.{List, [], ◌∷◌, ◌++◌}
use mathlib.Core.Path.{◌≡◌, refl, sym, ◌∙◌, ap}
use Prim.Native.Nat.{ℕ, suc, ◌≤◌, ◌<◌}
use native.Mathlib.Decide.{dec_lt}
use native.Mathlib.Omega.{arith}
use lib.Dec.{eqb}
use lib.ListN.{length, get_or, length-append, get_or-append}
use lib.Seq.{get_or-append_seam}
use borrow.Author.Tests.{eq-eqb, eqb-true}
use Rattle.atoms.proofs.Truth.{by_cond, T_left, T_right, T_true, true_T}
use Rattle.ipl.specs.Formula.{Formula}
use Rattle.syntax.specs.Nodes.{Connective, And, Or, Implies, Entry, letter, falsum, compound, number_of, same, index_of, with_entry, with_formula, nodes, Once}
use Rattle.syntax.proofs.Growth.{entry_keeps, formula_keeps}

-- The test is equality.
pub same_self : (e : Entry) → same e e ≡ true
unfolding same
same_self (letter l) = eq-eqb l l refl
same_self falsum = refl
same_self (compound c a b) = rw (eq-eqb a a refl, eq-eqb b b refl, eq-eqb (number_of c) (number_of c) refl)

same_number : (c d : Connective) → number_of c ≡ number_of d → c ≡ d
same_number And And e = refl
same_number And Or e = absurd (omega arith)
same_number And Implies e = absurd (omega arith)
same_number Or And e = absurd (omega arith)
same_number Or Or e = refl
same_number Or Implies e = absurd (omega arith)
same_number Implies And e = absurd (omega arith)
same_number Implies Or e = absurd (omega arith)
same_number Implies Implies e = refl

pub same_is : (x e : Entry) → same x e ≡ true → x ≡ e
unfolding same
same_is (letter k) (letter l) t = ap letter (eqb-true k l t)
same_is (letter k) falsum t = let z : ◌≡◌ {A = ℕ} 0 1 = cc in absurd (omega arith)
same_is (letter k) (compound d i j) t = let z : ◌≡◌ {A = ℕ} 0 1 = cc in absurd (omega arith)
same_is falsum (letter l) t = let z : ◌≡◌ {A = ℕ} 0 1 = cc in absurd (omega arith)
same_is falsum falsum t = refl
same_is falsum (compound d i j) t = let z : ◌≡◌ {A = ℕ} 0 1 = cc in absurd (omega arith)
same_is (compound c a b) (letter l) t = let z : ◌≡◌ {A = ℕ} 0 1 = cc in absurd (omega arith)
same_is (compound c a b) falsum t = let z : ◌≡◌ {A = ℕ} 0 1 = cc in absurd (omega arith)
same_is (compound c a b) (compound d i j) t =
    let parts = T_left (eqb a i && eqb b j) (eqb (number_of c) (number_of d)) (true_T t) in
    let left = eqb-true a i (T_true _ (T_left (eqb a i) (eqb b j) parts)) in
    let right = eqb-true b j (T_true _ (T_right (eqb a i) (eqb b j) parts)) in
    let connective = same_number c d (eqb-true _ _ (T_true _ (T_right (eqb a i && eqb b j) (eqb (number_of c) (number_of d)) (true_T t)))) in
    rw (connective, left, right)

pub index_end : (T : List Entry) (e : Entry) → index_of e T ≤ length T
unfolding index_of
index_end [] e = omega arith
index_end (x ∷ T) e = by_cond (λ (n : ℕ). n ≤ suc (length T)) (same x e) 0 (suc (index_of e T)) (λ t. omega arith) (λ t. omega (arith, index_end T e))

-- What is found is the entry.
pub found : (T : List Entry) (e : Entry) → index_of e T < length T → get_or T (index_of e T) falsum ≡ e
unfolding index_of
found [] e h = absurd (omega arith)
found (x ∷ T) e h =
    by_cond (λ (n : ℕ). n < suc (length T) → get_or (x ∷ T) n falsum ≡ e) (same x e) 0 (suc (index_of e T))
    (λ t k. same_is x e t) (λ t k. found T e (omega arith)) h

-- One row more.
index_kept : (T : List Entry) (e x : Entry) → index_of e T < length T → index_of e (T ++ (x ∷ [])) ≡ index_of e T
unfolding index_of
index_kept [] e x h = absurd (omega arith)
index_kept (y ∷ T) e x h =
    by_cond (λ (n : ℕ). n < suc (length T) → cond (same y e) 0 (suc (index_of e (T ++ (x ∷ [])))) ≡ n) (same y e) 0 (suc (index_of e T))
    (λ t k. rw t) (λ t k. rw (t, index_kept T e x (omega arith))) h

index_last : (T : List Entry) (e : Entry) → length T ≤ index_of e T → index_of e (T ++ (e ∷ [])) ≡ length T
unfolding index_of
index_last [] e h = rw (same_self e)
index_last (x ∷ T) e h =
    by_cond (λ (n : ℕ). suc (length T) ≤ n → cond (same x e) 0 (suc (index_of e (T ++ (e ∷ [])))) ≡ suc (length T)) (same x e) 0 (suc (index_of e T))
    (λ t k. absurd (omega arith)) (λ t k. rw (t, index_last T e (omega arith))) h

once_row : (T : List Entry) (e : Entry) → length T ≤ index_of e T → Once T → Once (T ++ (e ∷ []))
once_row T e new o i h = elim (dec_lt i (length T)) [
  | yes k ↦
      let is = get_or-append T (e ∷ []) falsum i k in
      let at = o i k in
      rw is (index_kept T (get_or T i falsum) e (omega arith) ∙ at)
  | no k ↦
      let end : i ≡ length T = omega (arith, length-append T (e ∷ [])) in
      let is : get_or (T ++ (e ∷ [])) i falsum ≡ e = ap (λ (n : ℕ). get_or (T ++ (e ∷ [])) n falsum) end ∙ get_or-append_seam T e [] falsum in
      rw is (index_last T e new ∙ sym end)
]

pub none_once : Once []
none_once i h = absurd (omega arith)

pub entry_once : (T : List Entry) (e : Entry) → Once T → Once (with_entry T e).table
entry_once T e h = entry_keeps Once once_row T e h

pub formula_once : (f : Formula) (T : List Entry) → Once T → Once (with_formula T f).table
formula_once f T h = formula_keeps Once once_row f T h

pub table_once : (f : Formula) → Once (nodes f).table
unfolding nodes
table_once f = formula_once f [] none_once
