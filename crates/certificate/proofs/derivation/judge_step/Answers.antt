-- What is asked and added is what the definition asks and adds.
use native.Mathlib.Omega.{arith}
use mathlib.Core.Path.{◌∙◌}
use Rattle.sat.proofs.Rows.{kept_grown}
use Rattle.certificate.specs.ReadBack.{step_of, implication_of}
use Rattle.certificate.proofs.Learning.{number_small, step_judged, step_loaded}
use Rattle.certificate.proofs.derivation.judge_step.Goals as goal

pub implication-x-requires : goal.implication-x-requires
implication-x-requires c =
    rw c.from.ensures
    (number_small _ _ c.requires.ranged c.requires.derives _ c.requires.listed (step_of c.step-step.result) c.step-step.ensures)

pub returns : goal.returns
returns c =
    let known = c.requires.loaded in
    let proof = c.proves-proof.ensures c.requires.follow in
    let step = step_of c.step-step.result in
    let x = implication_of c.implication-x.result in
    let named = rw c.from.ensures at c.implication-x.ensures in
    record {
      judged = proof.0 ∙ step_judged _ _ c.requires.ranged c.requires.derives _ c.requires.listed
          step c.step-step.ensures x named _ _ known _ c.atom_count.ensures;
      size_left = c.set_row.ensures.size;
      size_right = c.set_row-2.ensures.size;
      loaded = step_loaded _ _ c.requires.ranged c.requires.derives _ c.requires.listed
          step c.step-step.ensures x named _ _ known
          _ _ _ _ c.single.ensures c.single-2.ensures
          (omega (arith, c.requires.room_left, c.requires.listed)) (omega (arith, c.requires.room_right, c.requires.listed))
          _ c.without.ensures c.set_row.ensures c.set_row-2.ensures;
      follow = kept_grown _ _ _ _ _ _ _ _ _ _ c.set_row.ensures c.set_row-2.ensures (omega arith) proof.1;
    }
