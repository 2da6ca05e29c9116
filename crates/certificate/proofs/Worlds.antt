-- The tests of worlds, part by part, as the code makes them.
use mathlib.Core.Bool.{not, ◌&&◌}
use mathlib.Core.List.{List}
use mathlib.Core.Path.{◌≡◌, refl, sym, ap, ◌∙◌}
use Prim.Native.Nat.{ℕ, zero, suc, ◌+◌, ◌*◌, ◌<◌}
use native.Mathlib.Omega.{arith}
use lib.Dec.{eqb}
use lib.ListN.{get_or, take}
use Rattle.atoms.specs.Sets.{has, within}
use Rattle.ipl.specs.Lists.{all, any, tabulate}
use Rattle.ipl.specs.Clause.{satisfies, realizes}
use Rattle.ipl.proofs.Lists.{all_snoc, tabulate_at}
use Rattle.sat.specs.Table.{clause_at, clauses, all_hold}
use Rattle.certificate.specs.Format.{set_bytes, goal_start, claim_start}
use Rattle.certificate.specs.Layout.{world_from, flats_in, problem_in}
use Rattle.certificate.specs.Judge.{world_right}
use Rattle.certificate.specs.Checked.{WorldsReady, problem_by, worlds_by}
use Rattle.certificate.specs.declared.Contents.{Contents}

-- ---- truth of the flat clauses

all_hold_is : (left right : List ℕ) (m count : ℕ) → all_hold left right m count ≡ all (satisfies m) (clauses left right count)
unfolding all_hold clauses all tabulate
all_hold_is left right m zero = refl
all_hold_is left right m (suc k) =
    ap (λ b. b && satisfies m (clause_at left right k)) (all_hold_is left right m k) ∙ sym (all_snoc (satisfies m) (clauses left right k) (clause_at left right k))

-- ---- one world

-- World i, as it is read.
pub world_tests : (s : List ℕ) (k : Contents) (left right : List ℕ) → WorldsReady s k left right → (i : ℕ) → i < k.rows
    → let W = worlds_by s k in let world = λ (j : ℕ). world_from s (claim_start k.flats k.implications + set_bytes * j) in
    world_right (problem_by s k) W i
    ≡ (not (any (eqb (world i)) (take i W)) && within (world 0) (world i) && all_hold left right (world i) k.flats
    && all (realizes W (world i)) (problem_by s k).implications && not (eqb i 0 && has (world i) (get_or s (goal_start k.flats k.implications) 0)))
unfolding world_right problem_in
world_tests s k left right ready i l =
    let world = λ (j : ℕ). world_from s (claim_start k.flats k.implications + set_bytes * j) in
    let this : get_or (worlds_by s k) i 0 ≡ world i = tabulate_at world 0 k.rows i l in
    let root : get_or (worlds_by s k) 0 0 ≡ world 0 = tabulate_at world 0 k.rows 0 (omega arith) in
    let holds : all (satisfies (world i)) (flats_in s k.flats) ≡ all_hold left right (world i) k.flats =
    ap (all (satisfies (world i))) (sym ready.loaded) ∙ sym (all_hold_is left right (world i) k.flats) in
    rw (this, root, holds) refl
