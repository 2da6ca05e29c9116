-- What a problem and a claim in range have, part by part.
use mathlib.Core.Bool.{Bool, true, ◌&&◌}
use mathlib.Core.List.{List}
use mathlib.Core.Path.{◌≡◌}
use Prim.Native.Nat.{ℕ, ◌*◌, ◌≤◌}
use native.Mathlib.Omega.{arith}
use lib.Dec.{T, leb, leb→le, le→leb}
use lib.ListN.{length}
use Rattle.atoms.specs.Sets.{limit}
use Rattle.atoms.proofs.Truth.{T_left, T_right, T_and, T_true}
use Rattle.ipl.specs.Lists.{all, All}
use Rattle.ipl.specs.Clause.{Implication}
use Rattle.ipl.specs.Range.{flat_table, implication_table, step_table, world_table, atom_or_bot, set_in_range, flat_in_range, implication_in_range}
use Rattle.ipl.specs.Search.{Step, step_in_range}
use Rattle.ipl.specs.Book.{count_in_range}
use Rattle.ipl.proofs.Lists.{all_All, All_all, All_map}
use Rattle.ipl.proofs.Range.{implication_below, implication_in_range_lem}
use Rattle.certificate.specs.Certificate.{Problem, Claim, valid, refuted}
use Rattle.certificate.specs.Format.{step_bytes, refutes, rows_of, claim_width, encoded_length, longest_accepted}
use Rattle.certificate.specs.Judge.{claim_in_range, counts_in_range, in_range}

pub record RangeParts (p : Problem) (c : Claim) : Type 0 where
  pub some : 1 ≤ p.n
  pub few : p.n ≤ limit
  pub flat_count_small : length p.flats ≤ flat_table
  pub implication_count_small : length p.implications ≤ implication_table
  pub goal : T (atom_or_bot p.n p.goal)
  pub flats : All (λ f. T (flat_in_range p.n f)) p.flats
  pub implications : All (λ i. T (implication_in_range p.n i)) p.implications
  pub claim : T (claim_in_range p.n (length p.implications) c)

module _ (p : Problem) (c : Claim) where
  abbrev counts : Bool
  counts = counts_in_range p.n (length p.flats) (length p.implications)

  abbrev goal_test : Bool
  goal_test = atom_or_bot p.n p.goal

  abbrev flat_test : Bool
  flat_test = all (flat_in_range p.n) p.flats

  abbrev implication_test : Bool
  implication_test = all (implication_in_range p.n) p.implications

  abbrev claim_test : Bool
  claim_test = claim_in_range p.n (length p.implications) c

  pub range_parts : T (in_range p c) → RangeParts p c
  unfolding in_range counts_in_range count_in_range
  range_parts t =
      let upTo4 = T_left (counts && goal_test && flat_test && implication_test) claim_test t in
      let upTo3 = T_left (counts && goal_test && flat_test) implication_test upTo4 in
      let upTo2 = T_left (counts && goal_test) flat_test upTo3 in
      let held = T_left counts goal_test upTo2 in
      let F = leb (length p.flats) flat_table in
      let X = leb (length p.implications) implication_table in
      let nF = T_left (count_in_range p.n && F) X held in
      let n = T_left (count_in_range p.n) F nF in
      record {
        some = leb→le 1 p.n (T_left (leb 1 p.n) (leb p.n limit) n);
        few = leb→le p.n limit (T_right (leb 1 p.n) (leb p.n limit) n);
        flat_count_small = leb→le (length p.flats) flat_table (T_right (count_in_range p.n) F nF);
        implication_count_small = leb→le (length p.implications) implication_table (T_right (count_in_range p.n && F) X held);
        goal = T_right counts goal_test upTo2;
        flats = all_All (flat_in_range p.n) p.flats (T_right (counts && goal_test) flat_test upTo3);
        implications = all_All (implication_in_range p.n) p.implications (T_right (counts && goal_test && flat_test) implication_test upTo4);
        claim = T_right (counts && goal_test && flat_test && implication_test) claim_test t;
      }

  pub range_of : RangeParts p c → T (in_range p c)
  unfolding in_range counts_in_range count_in_range
  range_of r =
      let F = leb (length p.flats) flat_table in
      let X = leb (length p.implications) implication_table in
      let n = T_and (leb 1 p.n) (leb p.n limit) (le→leb 1 p.n r.some) (le→leb p.n limit r.few) in
      let nF = T_and (count_in_range p.n) F n (le→leb (length p.flats) flat_table r.flat_count_small) in
      let held = T_and (count_in_range p.n && F) X nF (le→leb (length p.implications) implication_table r.implication_count_small) in
      T_and (counts && goal_test && flat_test && implication_test) claim_test
      (T_and (counts && goal_test && flat_test) implication_test
      (T_and (counts && goal_test) flat_test (T_and counts goal_test held r.goal) (All_all (flat_in_range p.n) p.flats r.flats))
      (All_all (implication_in_range p.n) p.implications r.implications))
      r.claim

-- ---- in range over more atoms

wider_implication : (n m : ℕ) → n ≤ m → (i : Implication) → T (implication_in_range n i) → T (implication_in_range m i)
wider_implication n m h i t = implication_in_range_lem n m h i (implication_below n i t)

pub implications_below_limit : (p : Problem) (c : Claim) → T (in_range p c) → all (implication_in_range limit) p.implications ≡ true
implications_below_limit p c t =
    let r = range_parts p c t in
    T_true (all (implication_in_range limit) p.implications)
    (All_all (implication_in_range limit) p.implications (All_map p.implications (wider_implication p.n limit r.few) r.implications))

-- ---- the claim in range

-- The steps or the worlds in range, and not too many.
pub steps_ranged : (n m : ℕ) (S : List Step) → T (claim_in_range n m (valid S)) → All (λ s. T (step_in_range n m s)) S × (length S ≤ step_table)
unfolding claim_in_range
steps_ranged n m S t =
    let few = leb (length S) step_table in
    let ranged = all (step_in_range n m) S in
    (all_All (step_in_range n m) S (T_right few ranged t), leb→le (length S) step_table (T_left few ranged t))

pub worlds_ranged : (n m : ℕ) (W : List ℕ) → T (claim_in_range n m (refuted W)) → All (λ w. T (set_in_range n w)) W × (length W ≤ world_table)
unfolding claim_in_range
worlds_ranged n m W t =
    let few = leb (length W) world_table in
    let ranged = all (set_in_range n) W in
    (all_All (set_in_range n) W (T_right few ranged t), leb→le (length W) world_table (T_left few ranged t))

-- Its bytes are no more than those of a full table of steps.
claim_small : (n m : ℕ) (c : Claim) → T (claim_in_range n m c) → claim_width (refutes c) * rows_of c ≤ step_bytes * step_table
unfolding refutes rows_of
claim_small n m (valid S) t = omega (arith, (steps_ranged n m S t).1)
claim_small n m (refuted W) t = omega (arith, (worlds_ranged n m W t).1)

-- "At most 13,223."
pub range_longest : (p : Problem) (c : Claim) → T (in_range p c) → encoded_length p c ≤ longest_accepted
unfolding encoded_length
range_longest p c t =
    let r = range_parts p c t in
    omega (arith, claim_small p.n (length p.implications) c r.claim, r.flat_count_small, r.implication_count_small)
