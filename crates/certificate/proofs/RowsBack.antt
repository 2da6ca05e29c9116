-- What is read back, row by row.
use mathlib.Core.Bool.{Bool, true, false}
use mathlib.Core.List.{List}
use mathlib.Core.Path.{◌≡◌, refl, sym, ap, ◌∙◌}
use Prim.Native.Nat.{ℕ, ◌+◌, ◌*◌, ◌≤◌, ◌<◌}
use native.Mathlib.Omega.{arith}
use lib.ListN.{get_or, get_or-eq_default}
use Rattle.ipl.specs.Clause.{bot}
use Rattle.certificate.specs.Format.{set_bytes, flat_bytes, implication_bytes, step_bytes, bodies_start, flat_start, implication_start, goal_start, claim_start}
use Rattle.certificate.specs.Layout.{flat_from, implication_from, step_from, world_from, flats_in, implications_in, steps_in, worlds_in, laid_out, problem_in, claim_in, problem_of, claim_of}
use Rattle.certificate.specs.Checked.{problem_by, claim_by, SheetOf}
use Rattle.certificate.specs.ReadBack.{no_flat, no_implication, no_step, step_of_claim, world_of_claim}
use Rattle.certificate.specs.ReadBack.{atoms_read, goal_read, flat_read, implication_read, step_read, world_read}
use Rattle.certificate.specs.declared.Contents.{Contents}
use Rattle.certificate.specs.declared.sheet.Sheet.{Sheet}
use Rattle.ipl.proofs.Lists.{tabulate_at}
use Rattle.certificate.proofs.Tables.{flats_length, implications_length, steps_length, worlds_length}

module _ (s : List ℕ) where
  -- Without layout.
  pub unlaid_atoms : laid_out s ≡ false → 0 ≡ atoms_read s
  unfolding atoms_read
  unlaid_atoms e = rw e refl

  pub unlaid_goal : laid_out s ≡ false → bot ≡ goal_read s
  unfolding goal_read
  unlaid_goal e = rw e refl

  pub unlaid_flat : laid_out s ≡ false → (i : ℕ) → no_flat ≡ flat_read s i
  unfolding flat_read
  unlaid_flat e i = rw e refl

  pub unlaid_implication : laid_out s ≡ false → (i : ℕ) → no_implication ≡ implication_read s i
  unfolding implication_read
  unlaid_implication e i = rw e refl

  pub unlaid_step : laid_out s ≡ false → (i : ℕ) → no_step ≡ step_read s i
  unfolding step_read
  unlaid_step e i = rw e refl

  pub unlaid_world : laid_out s ≡ false → (i : ℕ) → 0 ≡ world_read s i
  unfolding world_read
  unlaid_world e i = rw e refl

-- With it: t are the bytes.
module _ (s : List ℕ) (sheet : Sheet) (h : SheetOf s sheet) where
  abbrev k : Contents
  k = sheet.contents

  abbrev t : List ℕ
  t = sheet.bytes.now

  problem_is : problem_of s ≡ problem_by t k
  unfolding problem_of
  problem_is = ap (problem_by s) (sym h.contents.contents_are) ∙ ap (λ z. problem_by z k) (sym h.same)

  claim_is : claim_of s ≡ claim_by t k
  unfolding claim_of
  claim_is = ap (claim_by s) (sym h.contents.contents_are) ∙ ap (λ z. claim_by z k) (sym h.same)

  pub laid_atoms : (n : ℕ) → n ≡ get_or t bodies_start 0 → n ≡ atoms_read s
  unfolding atoms_read problem_in
  laid_atoms n e = rw (h.contents.laid, problem_is) e

  pub laid_goal : (g : ℕ) → g ≡ get_or t (goal_start k.flats k.implications) 0 → g ≡ goal_read s
  unfolding goal_read problem_in
  laid_goal g e = rw (h.contents.laid, problem_is) e

  module _ (i : ℕ) where
    pub flat_past : k.flats ≤ i → no_flat ≡ flat_read s i
    unfolding flat_read problem_in
    flat_past l = rw (h.contents.laid, problem_is) (sym (get_or-eq_default (flats_in t k.flats) no_flat {n = i} (omega (arith, flats_length t k.flats))))

    pub flat_there : i < k.flats → flat_from t (flat_start + flat_bytes * i) ≡ flat_read s i
    unfolding flat_read problem_in
    flat_there l = rw (h.contents.laid, problem_is) (sym (tabulate_at (λ j. flat_from t (flat_start + flat_bytes * j)) no_flat k.flats i l))

    pub implication_past : k.implications ≤ i → no_implication ≡ implication_read s i
    unfolding implication_read problem_in
    implication_past l =
        rw (h.contents.laid, problem_is) (sym (get_or-eq_default (implications_in t (implication_start k.flats) k.implications) no_implication {n = i}
        (omega (arith, implications_length t (implication_start k.flats) k.implications))))

    pub implication_there : i < k.implications → implication_from t (implication_start k.flats + implication_bytes * i) ≡ implication_read s i
    unfolding implication_read problem_in
    implication_there l =
        rw (h.contents.laid, problem_is)
        (sym (tabulate_at (λ j. implication_from t (implication_start k.flats + implication_bytes * j)) no_implication k.implications i l))

    abbrev at : ℕ
    at = claim_start k.flats k.implications

    -- The claim, once it is known which it is.
    claim_as : (b : Bool) → k.refuting ≡ b → claim_of s ≡ claim_in t at b k.rows
    claim_as b e = claim_is ∙ ap (λ z. claim_in t at z k.rows) e

    pub step_past : k.refuting ≡ false → k.rows ≤ i → no_step ≡ step_read s i
    unfolding step_read step_of_claim claim_in
    step_past e l = rw (h.contents.laid, claim_as false e) (sym (get_or-eq_default (steps_in t at k.rows) no_step {n = i} (omega (arith, steps_length t at k.rows))))

    pub step_other : k.refuting ≡ true → no_step ≡ step_read s i
    unfolding step_read step_of_claim claim_in
    step_other e = rw (h.contents.laid, claim_as true e) refl

    pub step_there : k.refuting ≡ false → i < k.rows → step_from t (at + step_bytes * i) ≡ step_read s i
    unfolding step_read step_of_claim claim_in
    step_there e l = rw (h.contents.laid, claim_as false e) (sym (tabulate_at (λ j. step_from t (at + step_bytes * j)) no_step k.rows i l))

    pub world_past : k.refuting ≡ true → k.rows ≤ i → 0 ≡ world_read s i
    unfolding world_read world_of_claim claim_in
    world_past e l = rw (h.contents.laid, claim_as true e) (sym (get_or-eq_default (worlds_in t at k.rows) 0 {n = i} (omega (arith, worlds_length t at k.rows))))

    pub world_other : k.refuting ≡ false → 0 ≡ world_read s i
    unfolding world_read world_of_claim claim_in
    world_other e = rw (h.contents.laid, claim_as false e) refl

    pub world_there : k.refuting ≡ true → i < k.rows → world_from t (at + set_bytes * i) ≡ world_read s i
    unfolding world_read world_of_claim claim_in
    world_there e l = rw (h.contents.laid, claim_as true e) (sym (tabulate_at (λ j. world_from t (at + set_bytes * j)) 0 k.rows i l))
