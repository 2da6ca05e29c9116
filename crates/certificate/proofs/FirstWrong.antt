-- The place of what is wrong in a claim.
use mathlib.Core.Bool.{true, false}
use mathlib.Core.List.{List}
use mathlib.Core.Option.{none, some, or_else}
use mathlib.Core.Path.{◌≡◌, refl, sym, ap}
use Prim.Native.Nat.{ℕ, ◌≤◌, ◌<◌}
use native.Mathlib.Omega.{arith}
use lib.ListN.{length}
use Rattle.std.proofs.Common.{Option, Some, None, MatchOption}
use Rattle.certificate.specs.Checked.{found_at}
use Rattle.ipl.specs.Search.{Step}
use Rattle.ipl.proofs.First.{first_none, first_at_lem}
use Rattle.certificate.specs.Certificate.{Problem, valid, refuted}
use Rattle.certificate.specs.Judge.{step_proves, goal_proved, world_right, wrong_place}

-- ---- worlds

module _ (p : Problem) (W : List ℕ) (count : ℕ) (many : length W ≡ count) where
  pub world_wrong : (i : ℕ) → i < count → ((j : ℕ) → j < i → world_right p W j ≡ true) → world_right p W i ≡ false → some i ≡ wrong_place p (refuted W)
  unfolding wrong_place or_else
  world_wrong i l h e = sym (first_at_lem (world_right p W) (length W) i (omega arith) h e)

  pub worlds_right : (i : ℕ) → count ≤ i → ((j : ℕ) → j < i → world_right p W j ≡ true) → none ≡ wrong_place p (refuted W)
  unfolding wrong_place or_else
  worlds_right i l h = sym (first_none (world_right p W) (length W) (λ j k. h j (omega arith)))

  -- As a search finds it.
  pub world_found : (r : Option ℕ)
      → MatchOption r ((j : ℕ) → 0 ≤ j → j < count → world_right p W j ≡ true)
      (λ i. (0 ≤ i) × (i < count) × (world_right p W i ≡ false) × ((j : ℕ) → 0 ≤ j → j < i → world_right p W j ≡ true))
      → found_at r ≡ wrong_place p (refuted W)
  world_found None h = worlds_right count (omega arith) (λ j l. h j (omega arith) l)
  world_found (Some i) h = world_wrong i h.1 (λ j l. h.3 j (omega arith) l) h.2

-- ---- steps

module _ (p : Problem) (S : List Step) (count : ℕ) (many : length S ≡ count) where
  pub step_wrong : (i : ℕ) → i < count → ((j : ℕ) → j < i → step_proves p S j ≡ true) → step_proves p S i ≡ false → some i ≡ wrong_place p (valid S)
  unfolding wrong_place or_else
  step_wrong i l h e = rw (first_at_lem (step_proves p S) (length S) i (omega arith) h e) refl

  module _ (i : ℕ) (all : count ≤ i) (right : (j : ℕ) → j < i → step_proves p S j ≡ true) where
    pub goal_wrong : goal_proved p S ≡ false → some count ≡ wrong_place p (valid S)
    unfolding wrong_place or_else
    goal_wrong e = rw (first_none (step_proves p S) (length S) (λ j k. right j (omega arith)), e) (ap some (sym many))

    pub goal_right : goal_proved p S ≡ true → none ≡ wrong_place p (valid S)
    unfolding wrong_place or_else
    goal_right e = rw (first_none (step_proves p S) (length S) (λ j k. right j (omega arith)), e) refl
