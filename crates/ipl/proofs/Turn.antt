-- What the parts of one turn of the search give: dropping, and the first pair not realized.
use mathlib.Core.Bool.{Bool, false, not, ◌&&◌}
use mathlib.Core.List.{List, [], ◌∷◌}
use mathlib.Core.Option.{Option, none, some, or_else}
use mathlib.Core.Path.{◌≡◌, refl, sym, ◌∙◌, subst}
use Prim.Native.Nat.{ℕ, zero, suc, ◌+◌, ◌^◌, ◌<◌, zero-le, suc-le-suc}
use native.Mathlib.Nat.{add-zero, add-suc, suc-add}
use lib.Dec.{T, eqb}
use lib.ListN.{length, get_or}
use Rattle.atoms.specs.Sets.{has, single, remove}
use Rattle.atoms.proofs.Truth.{T_left, T_right, true_T, by_cond}
use Rattle.atoms.proofs.Members.{has_remove, minus_lt}
use Rattle.ipl.specs.Lists.{All}
use Rattle.ipl.specs.Clause.{Flat, Implication, realizes}
use Rattle.ipl.specs.Question.{ask}
use Rattle.ipl.specs.Search.{Pair, first_at, first_unrealized, is_none, drop_one, drop_from, implication_at}

-- ---- dropping keeps what is proved, and only drops

none_of : (o : Option ℕ) → T (is_none o) → o ≡ none
unfolding is_none
none_of none t = refl
none_of (some m) t = absurd t

abbrev Proves : ℕ → List Flat → ℕ → ℕ → Type 0
Proves n R b A = (A < 2 ^ n) × (ask n R A b ≡ none)

drop_one_proves : (n : ℕ) (R : List Flat) (b k A : ℕ) → Proves n R b A → Proves n R b (drop_one (λ B. is_none (ask n R B b)) k A)
unfolding drop_one
drop_one_proves n R b k A h =
    by_cond (Proves n R b) (has A k && is_none (ask n R (remove A k) b)) (remove A k) A
    (λ e. (minus_lt n A (single k) h.0, none_of (ask n R (remove A k) b) (T_right (has A k) (is_none (ask n R (remove A k) b)) (true_T e)))) (λ e. h)

pub drop_proves : (n : ℕ) (R : List Flat) (b d k A : ℕ) → Proves n R b A → Proves n R b (drop_from (λ B. is_none (ask n R B b)) d k A)
unfolding drop_from
drop_proves n R b zero k A h = h
drop_proves n R b (suc d) k A h =
    drop_proves n R b d (suc k) (drop_one (λ B. is_none (ask n R B b)) k A) (drop_one_proves n R b k A h)

drop_one_part : (p : ℕ → Bool) (k A j : ℕ) → T (has (drop_one p k A) j) → T (has A j)
unfolding drop_one
drop_one_part p k A j =
    by_cond (λ B. T (has B j) → T (has A j)) (has A k && p (remove A k)) (remove A k) A
    (λ e t. T_left (has A j) (not (eqb k j)) (subst T (has_remove A k j) t)) (λ e t. t)

pub drop_part : (p : ℕ → Bool) (d k A j : ℕ) → T (has (drop_from p d k A) j) → T (has A j)
unfolding drop_from
drop_part p zero k A j t = t
drop_part p (suc d) k A j t = drop_one_part p k A j (drop_part p d (suc k) (drop_one p k A) j t)

-- ---- the first pair not realized

-- The pair's implication stands in X under the pair's number, counted from k.
abbrev Numbered : ℕ → List Implication → Pair → Type 0
Numbered k X p = (j : ℕ) × (p.number ≡ k + j) × (j < length X) × (implication_at X j ≡ p.implication)

abbrev FirstAt : List ℕ → ℕ → ℕ → List Implication → Option Pair → Type 0
FirstAt W w k X none = All (λ i. T (realizes W w i)) X
FirstAt W w k X (some p) = (p.world ≡ w) × (realizes W p.world p.implication ≡ false) × Numbered k X p

first_at_next : (W : List ℕ) (w k : ℕ) (i : Implication) (X : List Implication) (o : Option Pair) → T (realizes W w i) → FirstAt W w (suc k) X o → FirstAt W w k (i ∷ X) o
first_at_next W w k i X none r h = (r, h)
first_at_next W w k i X (some p) r h =
    (h.0, h.1, (suc h.2.0, h.2.1 ∙ suc-add k h.2.0 ∙ sym (add-suc k h.2.0), suc-le-suc h.2.2, h.2.3))

first_at_right : (W : List ℕ) (w k : ℕ) (X : List Implication) → FirstAt W w k X (first_at W w k X)
unfolding first_at
first_at_right W w k [] = tt
first_at_right W w k (i ∷ X) =
    by_cond (FirstAt W w k (i ∷ X)) (realizes W w i) (first_at W w (suc k) X) (some (record { world = w; number = k; implication = i }))
    (λ e. first_at_next W w k i X (first_at W w (suc k) X) (true_T e) (first_at_right W w (suc k) X))
    (λ e. (refl, e, (0, sym (add-zero k), suc-le-suc zero-le, refl)))

-- None: every world of ws realizes every implication. Some: a world of ws that does not realize the pair's.
abbrev pub First : List ℕ → List Implication → List ℕ → Option Pair → Type 0
First W X ws none = All (λ w. All (λ i. T (realizes W w i)) X) ws
First W X ws (some p) =
    ((j : ℕ) × (j < length ws) × (get_or ws j 0 ≡ p.world)) × (realizes W p.world p.implication ≡ false) × Numbered 0 X p

first_next : (W : List ℕ) (X : List Implication) (w : ℕ) (ws : List ℕ) (o o' : Option Pair) → FirstAt W w 0 X o → First W X ws o' → First W X (w ∷ ws) (or_else o o')
unfolding or_else
first_next W X w ws (some p) o' h k = ((0, suc-le-suc zero-le, sym h.0), h.1, h.2)
first_next W X w ws none none h k = (h, k)
first_next W X w ws none (some p) h k = ((suc k.0.0, suc-le-suc k.0.1, k.0.2), k.1, k.2)

pub first_right : (W : List ℕ) (X : List Implication) (ws : List ℕ) → First W X ws (first_unrealized W X ws)
unfolding first_unrealized
first_right W X [] = tt
first_right W X (w ∷ ws) = first_next W X w ws (first_at W w 0 X) (first_unrealized W X ws) (first_at_right W w 0 X) (first_right W X ws)
