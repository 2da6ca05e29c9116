-- Laws of the 17 sets. Two functions of sets agree where the tables of their values, which antt computes, are the same.
use mathlib.Core.Bool.{Bool, true, false, not, ◌&&◌, ◌||◌}
use mathlib.Core.List.{List}
use mathlib.Core.Logic.{inl, inr, ◌↔◌}
use mathlib.Core.Path.{◌≡◌, refl, sym, ap, ap₂, ◌∙◌, subst}
use Prim.Native.Nat.{ℕ, zero, suc, ◌+◌, ◌*◌, ◌/◌, ◌%◌, ◌≤◌, ◌<◌}
use native.Mathlib.Omega.{arith}
use lib.Arith.{digits_div, digits_mod}
use lib.Dec.{T, eqb, leb, eqb→eq}
use lib.ListN.{get_or}
use borrow.Author.Tests.{leb-true}
use Rattle.atoms.specs.Sets.{has, bit_at}
use Rattle.atoms.proofs.Truth.{T_left, T_right, T_and, T_or, T_inl, true_T}
use Rattle.ipl.specs.Lists.{all, tabulate}
use Rattle.ipl.proofs.Lists.{all_All, All_all, All_tabulate, tabulate_at}
use Rattle.fork.specs.Fork.{tips, below, whole, set_count, member}
use Rattle.fork.specs.Algebra.{meet, join, within, is_implication, Greatest, number_with, implication}

-- ---- tables of values

same_below : {A : Type 0} (f g : ℕ → A) (n : ℕ) → tabulate f n ≡ tabulate g n → (i : ℕ) → i < n → f i ≡ g i
same_below {A} f g n e i h = sym (tabulate_at f (f 0) n i h) ∙ ap (λ (l : List A). get_or l i (f 0)) e ∙ tabulate_at g (f 0) n i h

-- The values at all pairs of sets.
abbrev values : {A : Type 0} → (ℕ → ℕ → A) → List (List A)
values f = tabulate (λ a. tabulate (f a) set_count) set_count

same_sets : {A : Type 0} (f g : ℕ → ℕ → A) → values f ≡ values g → (a b : ℕ) → a ≤ whole → b ≤ whole → f a b ≡ g a b
same_sets f g e a b ha hb =
    same_below (f a) (g a) set_count
    (same_below (λ a. tabulate (f a) set_count) (λ a. tabulate (g a) set_count) set_count e a (omega arith)) b (omega arith)

-- The values at all worlds too.
abbrev world_values : (ℕ → ℕ → ℕ → Bool) → List (List (List Bool))
world_values f = values (λ a b. tabulate (f a b) (suc tips))

same_worlds : (f g : ℕ → ℕ → ℕ → Bool) → world_values f ≡ world_values g
    → (a b w : ℕ) → a ≤ whole → b ≤ whole → w < suc tips → f a b w ≡ g a b w
same_worlds f g e a b w ha hb hw =
    same_below (f a b) (g a b) (suc tips) (same_sets (λ a b. tabulate (f a b) (suc tips)) (λ a b. tabulate (g a b) (suc tips)) e a b ha hb) w hw

-- ---- the operations

pub member_meet : (a b w : ℕ) → a ≤ whole → b ≤ whole → w < suc tips → member (meet a b) w ≡ member a w && member b w
unfolding tabulate member has bit_at meet
member_meet = same_worlds (λ a b w. member (meet a b) w) (λ a b w. member a w && member b w) refl

pub member_join : (a b w : ℕ) → a ≤ whole → b ≤ whole → w < suc tips → member (join a b) w ≡ member a w || member b w
unfolding tabulate member has bit_at join
member_join = same_worlds (λ a b w. member (join a b) w) (λ a b w. member a w || member b w) refl

pub meet_set : (a b : ℕ) → a ≤ whole → b ≤ whole → meet a b ≤ whole
unfolding tabulate meet
meet_set a b ha hb = leb-true (meet a b) whole (same_sets (λ a b. leb (meet a b) whole) (λ a b. true) refl a b ha hb)

pub join_set : (a b : ℕ) → a ≤ whole → b ≤ whole → join a b ≤ whole
unfolding tabulate join
join_set a b ha hb = leb-true (join a b) whole (same_sets (λ a b. leb (join a b) whole) (λ a b. true) refl a b ha hb)

pub implication_set : (a b : ℕ) → a ≤ whole → b ≤ whole → implication a b ≤ whole
unfolding all tabulate meet within is_implication number_with implication
implication_set a b ha hb =
    leb-true (implication a b) whole (same_sets (λ a b. leb (implication a b) whole) (λ a b. true) refl a b ha hb)

-- The implications, one after the other.
unfoldable pub table : List ℕ
table = tabulate (λ k. implication (k / set_count) (k % set_count)) (set_count * set_count)

pub implication_entry : (a b : ℕ) → a ≤ whole → b ≤ whole → get_or table (a * set_count + b) 0 ≡ implication a b
unfolding table
implication_entry a b ha hb =
    tabulate_at (λ k. implication (k / set_count) (k % set_count)) 0 (set_count * set_count) (a * set_count + b) (omega arith)
    ∙ ap₂ implication (digits_div a (omega arith)) (digits_mod a (omega arith))

-- ---- upward closed

root_member : (s w : ℕ) → T (member s 0) → T (member s w)
unfolding member
root_member s zero t = t
root_member s (suc i) t = T_inl (eqb s whole) (has s i) t

pub member_upward : (s u v : ℕ) → T (below u v) → T (member s u) → T (member s v)
member_upward s u v l t = elim (T_or (eqb u 0) (eqb u v) l) [
  | inl e ↦ root_member s v (subst (λ (k : ℕ). T (member s k)) (eqb→eq u 0 e) t)
  | inr e ↦ subst (λ (k : ℕ). T (member s k)) (eqb→eq u v e) t
]

-- ---- implication

implied : (a b : Bool) → T (not a || b) ↔ (T a → T b)
implied true b = (λ t s. t, λ f. f tt)
implied false b = (λ t s. absurd s, λ f. tt)

all_below_lem : (p : ℕ → Bool) (n : ℕ) → T (all p (tabulate (λ k. k) n)) ↔ ((k : ℕ) → k < n → T (p k))
all_below_lem p n = (
  λ t. (All_tabulate (λ k. T (p k)) (λ k. k) n).0 (all_All p (tabulate (λ k. k) n) t),
  λ f. All_all p (tabulate (λ k. k) n) ((All_tabulate (λ k. T (p k)) (λ k. k) n).1 f),
)

implication_passes : (a b : ℕ) → a ≤ whole → b ≤ whole → is_implication a b (implication a b) ≡ true
unfolding all tabulate meet within is_implication number_with implication
implication_passes = same_sets (λ a b. is_implication a b (implication a b)) (λ a b. true) refl

pub implication_greatest : (a b : ℕ) → a ≤ whole → b ≤ whole → Greatest a b (implication a b)
unfolding is_implication
implication_greatest a b ha hb = record {
  set = implication_set a b ha hb;
  inside = T_left inside (all within_it (tabulate (λ d. d) set_count)) passes;
  greatest = λ d hd.
      (implied (within (meet d a) b) (within d (implication a b))).0
      ((all_below_lem within_it set_count).0 (T_right inside (all within_it (tabulate (λ d. d) set_count)) passes) d (omega arith));
}
  where
    inside : Bool
    inside = within (meet (implication a b) a) b

    within_it : ℕ → Bool
    within_it d = not (within (meet d a) b) || within d (implication a b)

    passes : T (is_implication a b (implication a b))
    passes = true_T (implication_passes a b ha hb)

-- A world of a from w on is one of b.
abbrev leads : ℕ → ℕ → ℕ → ℕ → Bool
leads a b w v = not (below w v && member a v) || member b v

implication_leads : (a b w : ℕ) → a ≤ whole → b ≤ whole → w < suc tips
    → member (implication a b) w ≡ all (leads a b w) (tabulate (λ v. v) (suc tips))
unfolding all tabulate member has bit_at meet within is_implication number_with implication
implication_leads =
    same_worlds (λ a b w. member (implication a b) w) (λ a b w. all (leads a b w) (tabulate (λ v. v) (suc tips))) refl

pub member_implication : (a b w : ℕ) → a ≤ whole → b ≤ whole → w < suc tips
    → T (member (implication a b) w) ↔ ((v : ℕ) → v < suc tips → T (below w v) → T (member a v) → T (member b v))
member_implication a b w ha hb hw = (
  λ t v hv l m.
      (implied (below w v && member a v) (member b v)).0
      ((all_below_lem (leads a b w) (suc tips)).0 (subst T (implication_leads a b w ha hb hw) t) v hv)
      (T_and (below w v) (member a v) l m),
  λ f.
      subst T (sym (implication_leads a b w ha hb hw))
      ((all_below_lem (leads a b w) (suc tips)).1
      (λ v hv.
      (implied (below w v && member a v) (member b v)).1
      (λ t. f v hv (T_left (below w v) (member a v) t) (T_right (below w v) (member a v) t)))),
)
