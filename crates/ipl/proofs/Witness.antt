-- Each learned clause fails at the world where it was learned, which satisfies those learned before: so as many different
-- sets as steps (source 000, property P2).
use mathlib.Core.Bool.{Bool, true, false, ◌&&◌, false≢true}
use mathlib.Core.List.{List, [], ◌∷◌, ◌++◌, map}
use mathlib.Core.Path.{◌≡◌, refl, sym, ap, ◌∙◌}
use Prim.Native.Nat.{ℕ, ◌^◌, ◌≤◌, ◌<◌}
use native.Mathlib.Omega.{arith}
use lib.Dec.{T}
use lib.ListN.{length, length-append}
use Rattle.atoms.proofs.Truth.{T_true}
use Rattle.ipl.specs.Lists.{all, All, Distinct}
use Rattle.ipl.specs.Clause.{Flat, Implication, satisfies}
use Rattle.ipl.specs.Search.{Step, clause_of}
use Rattle.ipl.proofs.Lists.{All_all, All_map, All_append, all_snoc, map_snoc, distinct_snoc, pigeonhole}

-- As many different sets as steps, at each of which some step's clause fails.
pub record Witnessed (n : ℕ) (X : List Implication) (S : List Step) : Type 0 where
  pub sets : List ℕ
  pub many : length sets ≡ length S
  pub distinct : Distinct sets
  pub below : All (λ M. M < 2 ^ n) sets
  pub fail : All (λ M. all (satisfies M) (map (clause_of X) S) ≡ false) sets

pub witnessed_none : (n : ℕ) (X : List Implication) → Witnessed n X []
witnessed_none n X = record { sets = []; many = refl; distinct = tt; below = tt; fail = tt }

pub witnessed_count : (n : ℕ) (X : List Implication) (S : List Step) → Witnessed n X S → length S ≤ 2 ^ n
witnessed_count n X S v = omega (arith, v.many, pigeonhole (2 ^ n) v.sets v.distinct v.below)

-- Only the clauses of the steps matter.
pub witnessed_same : (n : ℕ) (X Y : List Implication) (S : List Step) → map (clause_of Y) S ≡ map (clause_of X) S → Witnessed n X S → Witnessed n Y S
witnessed_same n X Y S e v = record {
  sets = v.sets;
  many = v.many;
  distinct = v.distinct;
  below = v.below;
  fail = All_map v.sets (λ M h. ap (λ (R : List Flat). all (satisfies M) R) e ∙ h) v.fail;
}

-- One more step, and the world that it was learned at.
pub witnessed_snoc : (n : ℕ) (X : List Implication) (S : List Step) (s : Step) (w : ℕ) → Witnessed n X S → w < 2 ^ n
    → All (λ f. T (satisfies w f)) (map (clause_of X) S) → satisfies w (clause_of X s) ≡ false → Witnessed n X (S ++ (s ∷ []))
witnessed_snoc n X S s w v l h e =
    let C : List Flat = map (clause_of X) S in
    let t : all (satisfies w) C ≡ true = T_true (all (satisfies w) C) (All_all (satisfies w) C h) in
    record {
      sets = v.sets ++ (w ∷ []);
      many = omega (arith, v.many, length-append v.sets (w ∷ []), length-append S (s ∷ []));
      distinct = distinct_snoc v.sets w v.distinct (All_map v.sets (λ M x q. false≢true (sym x ∙ ap (λ (y : ℕ). all (satisfies y) C) q ∙ t)) v.fail);
      below = All_append (λ M. M < 2 ^ n) v.sets (w ∷ []) v.below (l, tt);
      fail = All_append (λ M. all (satisfies M) (map (clause_of X) (S ++ (s ∷ []))) ≡ false) v.sets (w ∷ [])
          (All_map v.sets (λ M x. rw (map_snoc (clause_of X) S s, all_snoc (satisfies M) C (clause_of X s)) (ap (λ (b : Bool). b && satisfies M (clause_of X s)) x)) v.fail)
          (rw (map_snoc (clause_of X) S s, all_snoc (satisfies w) C (clause_of X s), t, e), tt);
    }
