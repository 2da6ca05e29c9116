-- Theorem 1: `ask` is right. It is none exactly if no number below 2 ^ n counters, and else some of the least that does.
use mathlib.Core.Bool.{Bool, not, ◌&&◌}
use mathlib.Core.List.{List}
use mathlib.Core.Logic.{◌⊎◌, inl, inr, ◌↔◌}
use mathlib.Core.Option.{Option, none, some, or_else}
use mathlib.Core.Path.{◌≡◌, refl, ap, subst}
use Prim.Native.Nat.{ℕ, zero, suc, ◌+◌, ◌^◌, ◌≤◌, ◌<◌, zero-le}
use native.Mathlib.Decide.{dec_lt}
use native.Mathlib.Nat.{pow-suc, le_antisymm}
use native.Mathlib.Omega.{arith}
use lib.Dec.{T}
use Rattle.atoms.specs.Sets.{has, within}
use Rattle.atoms.proofs.Truth.{T_left, T_right, T_and, true_T, false_T, by_cond}
use Rattle.ipl.specs.Lists.{all, All}
use Rattle.ipl.specs.Clause.{Flat, satisfies}
use Rattle.ipl.specs.Question.{counters, least, ask, Counters}
use Rattle.ipl.proofs.Lists.{all_All, All_all}

-- ---- the least number that passes a test

-- The answer o is right of the numbers from base to before end.
abbrev pub Least : (ℕ → Bool) → ℕ → ℕ → Option ℕ → Type 0
Least p base end none = (y : ℕ) → base ≤ y → y < end → T (p y) → ⊥
Least p base end (some x) = T (p x) × (base ≤ x) × (x < end) × ((y : ℕ) → base ≤ y → y < x → T (p y) → ⊥)

split : (mid y : ℕ) → (y < mid) ⊎ (mid ≤ y)
split mid y = elim (dec_lt y mid) [ yes h ↦ inl h | no h ↦ inr (omega arith) ]

halves : (p : ℕ → Bool) (base mid end : ℕ) → base ≤ mid → mid ≤ end → (o o' : Option ℕ) → Least p base mid o → Least p mid end o'
    → Least p base end (or_else o o')
unfolding or_else
halves p base mid end h k (some x) o' a b = (a.0, a.1, omega arith, a.3)
halves p base mid end h k none none a b = λ y u v t. elim (split mid y) [ inl l ↦ a y u l t | inr g ↦ b y g v t ]
halves p base mid end h k none (some x) a b =
    (b.0, omega arith, b.2, λ y u v t. elim (split mid y) [ inl l ↦ a y u l t | inr g ↦ b.3 y g v t ])

least_right : (p : ℕ → Bool) (n base : ℕ) → Least p base (base + 2 ^ n) (least p n base)
unfolding least
least_right p zero base =
    by_cond (Least p base (base + 1)) (p base) (some base) none
    (λ e. (true_T e, omega arith, omega arith, λ y u v t. omega arith))
    (λ e y u v t. false_T e (subst (λ (k : ℕ). T (p k)) (omega arith) t))
least_right p (suc n) base =
    subst (λ (k : ℕ). Least p base k (least p (suc n) base)) (omega (arith, pow-suc 2 n))
    (halves p base (base + 2 ^ n) (base + 2 ^ n + 2 ^ n) (omega arith) (omega arith) (least p n base) (least p n (base + 2 ^ n))
    (least_right p n base) (least_right p n (base + 2 ^ n)))

-- ---- the question

counters_of : (n : ℕ) (R : List Flat) (A b m : ℕ) → m < 2 ^ n → T (counters R A b m) → Counters n R A b m
unfolding counters
counters_of n R A b m l t =
    let u : T (within A m && not (has m b)) = T_left (within A m && not (has m b)) (all (satisfies m) R) t in
    record {
      below = l;
      includes = T_left (within A m) (not (has m b)) u;
      lacks = T_right (within A m) (not (has m b)) u;
      satisfied = all_All (satisfies m) R (T_right (within A m && not (has m b)) (all (satisfies m) R) t);
    }

of_counters : (n : ℕ) (R : List Flat) (A b m : ℕ) → Counters n R A b m → T (counters R A b m)
unfolding counters
of_counters n R A b m c =
    T_and (within A m && not (has m b)) (all (satisfies m) R)
    (T_and (within A m) (not (has m b)) c.includes c.lacks) (All_all (satisfies m) R c.satisfied)

-- What an answer says.
abbrev pub Answers : ℕ → List Flat → ℕ → ℕ → Option ℕ → Type 0
Answers n R A b none = (m : ℕ) → Counters n R A b m → ⊥
Answers n R A b (some m) = Counters n R A b m × ((k : ℕ) → Counters n R A b k → m ≤ k)

pub ask_right : (n : ℕ) (R : List Flat) (A b : ℕ) → Answers n R A b (ask n R A b)
unfolding ask
ask_right n R A b = go (least (counters R A b) n 0) (least_right (counters R A b) n 0)
  where
    go : (o : Option ℕ) → Least (counters R A b) 0 (0 + 2 ^ n) o → Answers n R A b o
    go none h = λ m c. h m zero-le (omega (arith, c.below)) (of_counters n R A b m c)
    go (some m) h = (
      counters_of n R A b m (omega (arith, h.2)) h.0,
      λ k c. elim (split m k) [ inl l ↦ absurd (h.3 k zero-le l (of_counters n R A b k c)) | inr g ↦ g ],
    )

-- Two right answers are one: so any right answer is that of `ask`.
pub answers_unique : (n : ℕ) (R : List Flat) (A b : ℕ) (o o' : Option ℕ) → Answers n R A b o → Answers n R A b o' → o ≡ o'
answers_unique n R A b none none h k = refl
answers_unique n R A b none (some x) h k = absurd (h x k.0)
answers_unique n R A b (some x) none h k = absurd (k x h.0)
answers_unique n R A b (some x) (some y) h k = ap some (le_antisymm (h.1 y k.0) (k.1 x h.0))

pub ask_by : (n : ℕ) (R : List Flat) (A b : ℕ) (o : Option ℕ) → Answers n R A b o → ask n R A b ≡ o
ask_by n R A b o h = answers_unique n R A b (ask n R A b) o (ask_right n R A b) h

pub ask_none_iff : (n : ℕ) (R : List Flat) (A b : ℕ) → (ask n R A b ≡ none) ↔ ((m : ℕ) → Counters n R A b m → ⊥)
ask_none_iff n R A b = (λ e. subst (Answers n R A b) e (ask_right n R A b), ask_by n R A b none)

pub ask_some_iff : (n : ℕ) (R : List Flat) (A b m : ℕ) → (ask n R A b ≡ some m) ↔ (Counters n R A b m × ((k : ℕ) → Counters n R A b k → m ≤ k))
ask_some_iff n R A b m = (λ e. subst (Answers n R A b) e (ask_right n R A b), ask_by n R A b (some m))

-- More clauses prove no less.
pub ask_more : (n : ℕ) (R R' : List Flat) (A b : ℕ) → ((m : ℕ) → All (λ f. T (satisfies m f)) R' → All (λ f. T (satisfies m f)) R)
    → ask n R A b ≡ none → ask n R' A b ≡ none
ask_more n R R' A b h e =
    (ask_none_iff n R' A b).1 (λ m c.
    (ask_none_iff n R A b).0 e m (record { below = c.below; includes = c.includes; lacks = c.lacks; satisfied = h m c.satisfied }))
