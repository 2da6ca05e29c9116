-- The tests of range, part by part, as the code makes them.
use mathlib.Core.Bool.{Bool, true, false, ◌&&◌}
use mathlib.Core.List.{List}
use mathlib.Core.Path.{◌≡◌, refl, subst}
use Prim.Native.Nat.{ℕ, ◌+◌, ◌*◌, ◌≤◌}
use native.Mathlib.Omega.{arith}
use lib.Dec.{leb}
use lib.ListN.{get_or}
use Rattle.ipl.specs.Lists.{all}
use Rattle.ipl.specs.Range.{step_table, world_table, atom_or_bot, set_in_range, flat_in_range, implication_in_range}
use Rattle.ipl.specs.Search.{step_in_range}
use Rattle.certificate.specs.Certificate.{Claim}
use Rattle.certificate.specs.Format.{set_bytes, step_bytes, bodies_start, implication_start, goal_start, claim_start, total_length}
use Rattle.certificate.specs.Layout.{flats_in, implications_in, steps_in, worlds_in, problem_in, claim_in}
use Rattle.certificate.specs.Judge.{claim_in_range, counts_in_range, in_range}
use Rattle.certificate.proofs.Tables.{flats_length, implications_length, steps_length, worlds_length}

-- ---- the claim

module _ (s : List ℕ) (at n m R : ℕ) where
  pub worlds_claim : (r : Bool) → r ≡ true → claim_in_range n m (claim_in s at r R) ≡ (leb R world_table && all (set_in_range n) (worlds_in s at R))
  unfolding claim_in_range claim_in
  worlds_claim r e = rw (e, worlds_length s at R) refl

  pub steps_claim : (r : Bool) → r ≡ false → claim_in_range n m (claim_in s at r R) ≡ (leb R step_table && all (step_in_range n m) (steps_in s at R))
  unfolding claim_in_range claim_in
  steps_claim r e = rw (e, steps_length s at R) refl

-- The rows of a claim end the bytes.
module _ (L F X R : ℕ) (r : Bool) (size : L ≡ total_length F X r R) where
  pub worlds_there : r ≡ true → claim_start F X + set_bytes * R ≤ L
  worlds_there e = omega (arith, subst (λ z. L ≡ total_length F X z R) e size)

  pub steps_there : r ≡ false → claim_start F X + step_bytes * R ≤ L
  steps_there e = omega (arith, subst (λ z. L ≡ total_length F X z R) e size)

-- ---- the whole

pub range_tests : (s : List ℕ) (F X : ℕ) (claim : Claim) → let n = get_or s bodies_start 0 in in_range (problem_in s F X) claim
    ≡ (counts_in_range n F X && atom_or_bot n (get_or s (goal_start F X) 0) && all (flat_in_range n) (flats_in s F)
    && all (implication_in_range n) (implications_in s (implication_start F) X) && claim_in_range n X claim)
unfolding in_range problem_in
range_tests s F X claim = rw (flats_length s F, implications_length s (implication_start F) X) refl
