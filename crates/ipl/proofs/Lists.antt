-- Laws of the tests and statements over lists.
use mathlib.Core.Bool.{Bool, true, false, not, cond, ◌&&◌, ◌||◌, or-false, or_assoc}
use mathlib.Core.List.{List, [], ◌∷◌, ◌++◌, map, append-nil, append_assoc}
use mathlib.Core.Logic.{inl, inr, ◌↔◌}
use mathlib.Core.Path.{◌≡◌, refl, sym, ap, ap₂, ◌∙◌, subst}
use Prim.Native.Nat.{ℕ, zero, suc, ◌+◌, ◌≤◌, ◌<◌, zero-le, suc-le-suc}
use native.Mathlib.Decide.{dec_lt}
use native.Mathlib.Nat.{not-suc-le-zero, le_of_suc-le-suc, add-zero, add-suc}
use native.Mathlib.Omega.{arith}
use lib.Arith.{lt_of_le-ne}
use lib.Dec.{T, eqb}
use lib.ListN.{length, get_or, take, length-append, get_or-append}
use lib.Seq.{get_or-append_seam, take_all, take-append-le, ext_get_or}
use borrow.Author.Tests.{eqb-true, eq-eqb, ne_eqb}
use native.Mathlib.Numerals.{add-one}
use Rattle.atoms.proofs.Truth.{T_left, T_right, T_and, T_or, T_inl, T_inr, T_iff, T_true, T_false, true_T, false_T, by_cond}
use Rattle.ipl.specs.Lists.{all, any, keep, tabulate, All, Pairwise, Distinct}

-- ---- every element

pub all_All : {A : Type 0} (p : A → Bool) (l : List A) → T (all p l) → All (λ (x : A). T (p x)) l
unfolding all
all_All p [] t = tt
all_All p (x ∷ l) t = (T_left (p x) (all p l) t, all_All p l (T_right (p x) (all p l) t))

pub All_all : {A : Type 0} (p : A → Bool) (l : List A) → All (λ (x : A). T (p x)) l → T (all p l)
unfolding all
All_all p [] h = tt
All_all p (x ∷ l) h = T_and (p x) (all p l) h.0 (All_all p l h.1)

pub all_snoc : {A : Type 0} (p : A → Bool) (l : List A) (x : A) → all p (l ++ (x ∷ [])) ≡ all p l && p x
unfolding all
all_snoc p [] x = go (p x)
  where
    go : (b : Bool) → b && true ≡ b
    go true = refl
    go false = refl
all_snoc p (y ∷ l) x = go (p y) (all p (l ++ (x ∷ []))) (all p l) (all_snoc p l x)
  where
    go : (b c d : Bool) → c ≡ d && p x → b && c ≡ b && d && p x
    go true c d e = e
    go false c d e = refl

pub All_map : {A : Type 0} {P Q : A → Type 0} (l : List A) → ((x : A) → P x → Q x) → All P l → All Q l
All_map [] f h = tt
All_map (x ∷ l) f h = (f x h.0, All_map l f h.1)

pub All_zip : {A : Type 0} (P Q : A → Type 0) (l : List A) → All P l → All Q l → All (λ (x : A). P x × Q x) l
All_zip P Q [] h k = tt
All_zip P Q (x ∷ l) h k = ((h.0, k.0), All_zip P Q l h.1 k.1)

pub All_append : {A : Type 0} (P : A → Type 0) (l r : List A) → All P l → All P r → All P (l ++ r)
All_append P [] r h k = k
All_append P (x ∷ l) r h k = (h.0, All_append P l r h.1 k)

pub All_left : {A : Type 0} (P : A → Type 0) (l r : List A) → All P (l ++ r) → All P l
All_left P [] r h = tt
All_left P (x ∷ l) r h = (h.0, All_left P l r h.1)

pub All_right : {A : Type 0} (P : A → Type 0) (l r : List A) → All P (l ++ r) → All P r
All_right P [] r h = h
All_right P (x ∷ l) r h = All_right P l r h.1

-- By places.
pub All_at : {A : Type 0} (P : A → Type 0) (l : List A) (d : A) → All P l → (k : ℕ) → k < length l → P (get_or l k d)
All_at P [] d h k lt = absurd (not-suc-le-zero lt)
All_at P (x ∷ l) d h zero lt = h.0
All_at P (x ∷ l) d h (suc k) lt = All_at P l d h.1 k (le_of_suc-le-suc lt)

pub All_of : {A : Type 0} (P : A → Type 0) (l : List A) (d : A) → ((k : ℕ) → k < length l → P (get_or l k d)) → All P l
All_of P [] d f = tt
All_of P (x ∷ l) d f = (f 0 (suc-le-suc zero-le), All_of P l d (λ k h. f (suc k) (suc-le-suc h)))

-- A read within a list is the same whatever is read past its end.
pub read_within : {A : Type 0} (l : List A) (i : ℕ) (d e : A) → i < length l → get_or l i d ≡ get_or l i e
read_within [] i d e h = absurd (not-suc-le-zero h)
read_within (x ∷ l) zero d e h = refl
read_within (x ∷ l) (suc i) d e h = read_within l i d e (le_of_suc-le-suc h)

-- ---- some element

pub any_at : {A : Type 0} (p : A → Bool) (l : List A) (d : A) → T (any p l) → (k : ℕ) × (k < length l) × T (p (get_or l k d))
unfolding any
any_at p [] d t = absurd t
any_at p (x ∷ l) d t = elim (T_or (p x) (any p l) t) [
  | inl h ↦ (0, suc-le-suc zero-le, h)
  | inr h ↦ let r = any_at p l d h in (suc r.0, suc-le-suc r.1, r.2)
]

pub at_any : {A : Type 0} (p : A → Bool) (l : List A) (d : A) (k : ℕ) → k < length l → T (p (get_or l k d)) → T (any p l)
unfolding any
at_any p [] d k h t = absurd (not-suc-le-zero h)
at_any p (x ∷ l) d zero h t = T_inl (p x) (any p l) t
at_any p (x ∷ l) d (suc k) h t = T_inr (p x) (any p l) (at_any p l d k (le_of_suc-le-suc h) t)

pub any_left : {A : Type 0} (p : A → Bool) (l r : List A) → T (any p l) → T (any p (l ++ r))
unfolding any
any_left p [] r t = absurd t
any_left p (x ∷ l) r t = elim (T_or (p x) (any p l) t) [
  | inl h ↦ T_inl (p x) (any p (l ++ r)) h
  | inr h ↦ T_inr (p x) (any p (l ++ r)) (any_left p l r h)
]

pub any_snoc : {A : Type 0} (p : A → Bool) (l : List A) (x : A) → any p (l ++ (x ∷ [])) ≡ any p l || p x
unfolding any
any_snoc p [] x = or-false (p x)
any_snoc p (y ∷ l) x = ap (λ (b : Bool). p y || b) (any_snoc p l x) ∙ sym (or_assoc (p y) (any p l) (p x))

pub any_last : {A : Type 0} (p : A → Bool) (l : List A) (x : A) → T (p x) → T (any p (l ++ (x ∷ [])))
unfolding any
any_last p [] x t = T_inl (p x) false t
any_last p (y ∷ l) x t = T_inr (p y) (any p (l ++ (x ∷ []))) (any_last p l x t)

-- An element that passes one test, where every element has a property.
pub any_with : {A : Type 0} (p : A → Bool) (Q : A → Type 0) (C : Type 0) (l : List A) → T (any p l) → All Q l → ((x : A) → T (p x) → Q x → C) → C
unfolding any
any_with p Q C [] t h f = absurd t
any_with p Q C (x ∷ l) t h f = elim (T_or (p x) (any p l) t) [ inl s ↦ f x s h.0 | inr s ↦ any_with p Q C l s h.1 f ]

pub map_snoc : {A B : Type 0} (f : A → B) (l : List A) (x : A) → map f (l ++ (x ∷ [])) ≡ map f l ++ (f x ∷ [])
map_snoc f [] x = refl
map_snoc f (y ∷ l) x = ap (λ r. f y ∷ r) (map_snoc f l x)

-- ---- tables

pub tabulate_length : {A : Type 0} (f : ℕ → A) (n : ℕ) → length (tabulate f n) ≡ n
unfolding tabulate
tabulate_length f zero = refl
tabulate_length f (suc n) = omega (arith, tabulate_length f n, length-append (tabulate f n) (f n ∷ []))

pub tabulate_same : {A : Type 0} (f g : ℕ → A) (n : ℕ) → ((i : ℕ) → i < n → f i ≡ g i) → tabulate f n ≡ tabulate g n
unfolding tabulate
tabulate_same f g zero h = refl
tabulate_same f g (suc n) h = ap₂ (λ l x. l ++ (x ∷ [])) (tabulate_same f g n (λ i k. h i (omega arith))) (h n (omega arith))

pub All_tabulate : {A : Type 0} (P : A → Type 0) (f : ℕ → A) (n : ℕ) → All P (tabulate f n) ↔ ((i : ℕ) → i < n → P (f i))
unfolding tabulate
All_tabulate P f zero = (λ h i l. absurd (not-suc-le-zero l), λ h. tt)
All_tabulate P f (suc n) = (
  λ h i l. elim (dec_lt i n) [
    | yes k ↦ (All_tabulate P f n).0 (All_left P (tabulate f n) (f n ∷ []) h) i k
    | no k ↦ subst (λ (j : ℕ). P (f j)) (omega arith) (All_right P (tabulate f n) (f n ∷ []) h).0
  ],
  λ h. All_append P (tabulate f n) (f n ∷ []) ((All_tabulate P f n).1 (λ i l. h i (omega arith))) (h n (omega arith), tt),
)

pub tabulate_at : {A : Type 0} (f : ℕ → A) (d : A) (n i : ℕ) → i < n → get_or (tabulate f n) i d ≡ f i
unfolding tabulate
tabulate_at f d zero i l = absurd (not-suc-le-zero l)
tabulate_at f d (suc n) i l = elim (dec_lt i n) [
  | yes k ↦ get_or-append (tabulate f n) (f n ∷ []) d i (omega (arith, tabulate_length f n)) ∙ tabulate_at f d n i k
  | no k ↦
      let e : i ≡ n = omega arith in
      rw e (subst (λ (j : ℕ). get_or (tabulate f n ++ (f n ∷ [])) j d ≡ f n) (tabulate_length f n) (get_or-append_seam (tabulate f n) (f n) [] d))
]

-- The rows of a list are the list.
pub tabulate_rows : {A : Type 0} (d : A) (l : List A) (n : ℕ) → length l ≡ n → tabulate (λ i. get_or l i d) n ≡ l
tabulate_rows d l n size =
    ext_get_or d (tabulate (λ i. get_or l i d) n) l (tabulate_length (λ i. get_or l i d) n ∙ sym size)
    (λ i h. tabulate_at (λ i. get_or l i d) d n i (omega (arith, h, tabulate_length (λ i. get_or l i d) n)))

pub tabulate_take : {A : Type 0} (f : ℕ → A) (n i : ℕ) → i ≤ n → take i (tabulate f n) ≡ tabulate f i
unfolding tabulate
tabulate_take f zero i h = let e : 0 ≡ i = omega arith in subst (λ (j : ℕ). take j (tabulate f 0) ≡ tabulate f j) e refl
tabulate_take f (suc n) i h = elim (dec_lt n i) [
  | yes l ↦
      let e : suc n ≡ i = omega arith in
      subst (λ (j : ℕ). take j (tabulate f (suc n)) ≡ tabulate f j) e (take_all (suc n) (tabulate f (suc n)) (omega (arith, tabulate_length f (suc n))))
  | no l ↦ take-append-le i (tabulate f n) (f n ∷ []) (omega (arith, tabulate_length f n)) ∙ tabulate_take f n i (omega arith)
]

-- A table whose rows before k stayed, with row k.
pub tabulate_more : {A : Type 0} (f g : ℕ → A) (x : A) (k : ℕ) → ((i : ℕ) → i < k → g i ≡ f i) → g k ≡ x → tabulate g (k + 1) ≡ tabulate f k ++ (x ∷ [])
unfolding tabulate
tabulate_more f g x k h e = rw (add-one k) (ap₂ (λ l y. l ++ (y ∷ [])) (tabulate_same g f k h) e)

-- A test over a table, one row after the other.
pub all_next : {A : Type 0} (p : A → Bool) (f : ℕ → A) (i : ℕ) → all p (tabulate f i) ≡ true → p (f i) ≡ true → all p (tabulate f (i + 1)) ≡ true
unfolding tabulate
all_next p f i h e = rw (add-one i, all_snoc p (tabulate f i) (f i), h, e)

pub all_fails : {A : Type 0} (p : A → Bool) (f : ℕ → A) (i n : ℕ) → i < n → p (f i) ≡ false → all p (tabulate f n) ≡ false
all_fails p f i n l e =
    T_false (all p (tabulate f n)) (λ t. false_T e ((All_tabulate (λ x. T (p x)) f n).0 (all_All p (tabulate f n) t) i l))

pub all_at : {A : Type 0} (p : A → Bool) (f : ℕ → A) (i n : ℕ) → i < n → all p (tabulate f n) ≡ true → p (f i) ≡ true
all_at p f i n l e = T_true (p (f i)) ((All_tabulate (λ x. T (p x)) f n).0 (all_All p (tabulate f n) (true_T e)) i l)

pub all_end : {A : Type 0} (p : A → Bool) (f : ℕ → A) (i n : ℕ) → i ≤ n → n ≤ i → all p (tabulate f i) ≡ true → true ≡ all p (tabulate f n)
all_end p f i n h k e = sym (subst (λ (j : ℕ). all p (tabulate f j) ≡ true) (omega arith) e)

-- Some row, one after the other: a row that fails the test counts nothing.
pub any_less : {A : Type 0} (p : A → Bool) (f : ℕ → A) (i n : ℕ) → n ≡ i + 1 → p (f i) ≡ false → any p (tabulate f n) ≡ any p (tabulate f i)
unfolding tabulate
any_less p f i n h e = rw (h, add-one i, any_snoc p (tabulate f i) (f i), e) (or-false (any p (tabulate f i)))

pub any_none : {A : Type 0} (p : A → Bool) (f : ℕ → A) (n : ℕ) → n ≡ 0 → any p (tabulate f n) ≡ false
unfolding any tabulate
any_none p f n h = rw h

pub any_next : {A : Type 0} (p : A → Bool) (f : ℕ → A) (i : ℕ) → any p (tabulate f i) ≡ false → p (f i) ≡ false → any p (tabulate f (i + 1)) ≡ false
any_next p f i h e = any_less p f i (i + 1) refl e ∙ h

pub any_found : {A : Type 0} (p : A → Bool) (f : ℕ → A) (i n : ℕ) → i < n → p (f i) ≡ true → any p (tabulate f n) ≡ true
any_found p f i n l e =
    T_true (any p (tabulate f n)) (at_any p (tabulate f n) (f i) i (omega (arith, tabulate_length f n)) (rw (tabulate_at f (f i) n i l) (true_T e)))

pub any_end : {A : Type 0} (p : A → Bool) (f : ℕ → A) (i n : ℕ) → i ≤ n → n ≤ i → any p (tabulate f i) ≡ false → false ≡ any p (tabulate f n)
any_end p f i n h k e = sym (subst (λ (j : ℕ). any p (tabulate f j) ≡ false) (omega arith) e)

-- Two tests of the rows are the test of both.
pub all_both : {A B C : Type 0} (p : A → Bool) (q : B → Bool) (r : C → Bool) (f : ℕ → A) (g : ℕ → B) (h : ℕ → C) (n : ℕ)
    → ((i : ℕ) → i < n → r (h i) ≡ p (f i) && q (g i)) → all r (tabulate h n) ≡ all p (tabulate f n) && all q (tabulate g n)
all_both p q r f g h n e =
    T_iff (all r (tabulate h n)) (all p (tabulate f n) && all q (tabulate g n))
    (λ t. T_and (all p (tabulate f n)) (all q (tabulate g n))
    (All_all p (tabulate f n) ((All_tabulate (λ x. T (p x)) f n).1 (λ i l. T_left (p (f i)) (q (g i)) (subst T (e i l) (row t i l)))))
    (All_all q (tabulate g n) ((All_tabulate (λ x. T (q x)) g n).1 (λ i l. T_right (p (f i)) (q (g i)) (subst T (e i l) (row t i l))))))
    (λ t. All_all r (tabulate h n) ((All_tabulate (λ x. T (r x)) h n).1 (λ i l. subst T (sym (e i l)) (T_and (p (f i)) (q (g i))
    ((All_tabulate (λ x. T (p x)) f n).0 (all_All p (tabulate f n) (T_left (all p (tabulate f n)) (all q (tabulate g n)) t)) i l)
    ((All_tabulate (λ x. T (q x)) g n).0 (all_All q (tabulate g n) (T_right (all p (tabulate f n)) (all q (tabulate g n)) t)) i l)))))
  where
    row : T (all r (tabulate h n)) → (i : ℕ) → i < n → T (r (h i))
    row t = (All_tabulate (λ x. T (r x)) h n).0 (all_All r (tabulate h n) t)

pub map_tabulate : {A B : Type 0} (h : A → B) (f : ℕ → A) (n : ℕ) → map h (tabulate f n) ≡ tabulate (λ i. h (f i)) n
unfolding tabulate
map_tabulate h f zero = refl
map_tabulate h f (suc n) = map_snoc h (tabulate f n) (f n) ∙ ap (λ l. l ++ (h (f n) ∷ [])) (map_tabulate h f n)

pub tabulate_append : {A : Type 0} (f : ℕ → A) (m n : ℕ) → tabulate f (m + n) ≡ tabulate f m ++ tabulate (λ i. f (m + i)) n
unfolding tabulate
tabulate_append f m zero = rw (add-zero m) (sym (append-nil (tabulate f m)))
tabulate_append f m (suc n) =
    rw (add-suc m n) (ap (λ l. l ++ (f (m + n) ∷ [])) (tabulate_append f m n) ∙ append_assoc (tabulate f m) (tabulate (λ i. f (m + i)) n) (f (m + n) ∷ []))

-- ---- the elements that pass a test

pub keep_all : {A : Type 0} (P : A → Type 0) (p : A → Bool) (l : List A) → All P l → All P (keep p l)
unfolding keep
keep_all P p [] h = tt
keep_all P p (x ∷ l) h = by_cond (All P) (p x) (x ∷ keep p l) (keep p l) (λ _. (h.0, keep_all P p l h.1)) (λ _. keep_all P p l h.1)

pub keep_passed : {A : Type 0} (p : A → Bool) (l : List A) → All (λ x. T (p x)) (keep p l)
unfolding keep
keep_passed p [] = tt
keep_passed p (x ∷ l) = by_cond (All (λ y. T (p y))) (p x) (x ∷ keep p l) (keep p l) (λ e. (true_T e, keep_passed p l)) (λ _. keep_passed p l)

pub keep_pairwise : {A : Type 0} (R : A → A → Type 0) (p : A → Bool) (l : List A) → Pairwise R l → Pairwise R (keep p l)
unfolding keep
keep_pairwise R p [] h = tt
keep_pairwise R p (x ∷ l) h =
    by_cond (Pairwise R) (p x) (x ∷ keep p l) (keep p l) (λ _. (keep_all (R x) p l h.0, keep_pairwise R p l h.1)) (λ _. keep_pairwise R p l h.1)

pub keep_snoc : {A : Type 0} (p : A → Bool) (l : List A) (x : A) → keep p (l ++ (x ∷ [])) ≡ keep p l ++ cond (p x) (x ∷ []) []
unfolding keep
keep_snoc p [] x = refl
keep_snoc p (y ∷ l) x = rw (keep_snoc p l x) (go (p y) (cond (p x) (x ∷ []) []))
  where
    go : (b : Bool) (r : List _) → cond b (y ∷ (keep p l ++ r)) (keep p l ++ r) ≡ cond b (y ∷ keep p l) (keep p l) ++ r
    go true r = refl
    go false r = refl

keep_whole : {A : Type 0} (p : A → Bool) (l : List A) → All (λ x. T (p x)) l → keep p l ≡ l
unfolding keep
keep_whole p [] h = refl
keep_whole p (x ∷ l) h = rw (T_true (p x) h.0, keep_whole p l h.1)

-- ---- what holds of each two

pub pairwise_snoc : {A : Type 0} (R : A → A → Type 0) (l : List A) (m : A) → Pairwise R l → All (λ x. R x m) l → Pairwise R (l ++ (m ∷ []))
pairwise_snoc R [] m d h = (tt, tt)
pairwise_snoc R (x ∷ l) m d h = (All_append (R x) l (m ∷ []) d.0 (h.0, tt), pairwise_snoc R l m d.1 h.1)

pub pairwise_left : {A : Type 0} (R : A → A → Type 0) (l r : List A) → Pairwise R (l ++ r) → Pairwise R l
pairwise_left R [] r h = tt
pairwise_left R (x ∷ l) r h = (All_left (R x) l r h.0, pairwise_left R l r h.1)

-- Those before the element at i.
pub pairwise_before : {A : Type 0} (R : A → A → Type 0) (l : List A) (d : A) (i : ℕ) → i < length l → Pairwise R l → All (λ x. R x (get_or l i d)) (take i l)
pairwise_before R [] d i h p = absurd (not-suc-le-zero h)
pairwise_before R (x ∷ l) d zero h p = tt
pairwise_before R (x ∷ l) d (suc i) h p = (All_at (R x) l d p.0 i (le_of_suc-le-suc h), pairwise_before R l d i (le_of_suc-le-suc h) p.1)

-- ---- no two equal

pub distinct_snoc : {A : Type 0} (l : List A) (m : A) → Distinct l → All (λ y. y ≡ m → ⊥) l → Distinct (l ++ (m ∷ []))
distinct_snoc l m d h = pairwise_snoc (λ x y. x ≡ y → ⊥) l m d h

-- The test for other numbers than k, and the list without k.
pub other_number : (x k : ℕ) → T (not (eqb x k)) → x ≡ k → ⊥
other_number x k t e = subst (λ (b : Bool). T (not b)) (eq-eqb x k e) t

abbrev without : ℕ → List ℕ → List ℕ
without k l = keep (λ x. not (eqb x k)) l

without_length : (k : ℕ) (l : List ℕ) → Distinct l → length l ≤ suc (length (without k l))
unfolding keep
without_length k [] d = zero-le
without_length k (x ∷ l) d = go (without_length k l d.1) (eqb x k) refl
  where
    others : x ≡ k → without k l ≡ l
    others e = keep_whole (λ y. not (eqb y k)) l (All_map l (λ y differs. rw (ne_eqb y k (λ q. differs (e ∙ sym q))) tt) d.0)

    go : length l ≤ suc (length (without k l)) → (b : Bool) → eqb x k ≡ b → suc (length l) ≤ suc (length (cond (not b) (x ∷ without k l) (without k l)))
    go r true e = omega (arith, ap length (others (eqb-true x k e)))
    go r false e = suc-le-suc r

-- Different numbers below N are at most N.
pub pigeonhole : (N : ℕ) (l : List ℕ) → Distinct l → All (λ x. x < N) l → length l ≤ N
pigeonhole zero [] d h = zero-le
pigeonhole zero (x ∷ l) d h = absurd (not-suc-le-zero h.0)
pigeonhole (suc N) l d h =
    let other : ℕ → Bool = λ x. not (eqb x N) in
    let below : All (λ x. x < N) (without N l) =
    All_map (without N l) (λ x b. lt_of_le-ne (omega (arith, b.0)) (other_number x N b.1))
    (All_zip (λ x. x < suc N) (λ x. T (other x)) (without N l) (keep_all (λ x. x < suc N) other l h) (keep_passed other l)) in
    omega (arith, without_length N l d, pigeonhole N (without N l) (keep_pairwise (λ x y. x ≡ y → ⊥) other l d) below)
