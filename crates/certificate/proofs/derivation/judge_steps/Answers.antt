use native.Mathlib.Omega.{arith}
use borrow.Author.Tests.{not-true, not-false}
use mathlib.Core.Path.{sym, ◌∙◌}
use Rattle.atoms.proofs.Machine.{num_empty}
use Rattle.certificate.proofs.Tables.{steps_length}
use Rattle.certificate.proofs.FirstWrong.{step_wrong, goal_wrong, goal_right}
use Rattle.certificate.proofs.Learning.{goal_judged, progress_none, progress_ready, progress_next}
use Rattle.certificate.proofs.derivation.judge_steps.Goals as goal

pub loop-i-init : goal.loop-i-init
loop-i-init c = progress_none _ _ _ _ _ c.requires

pub judge_step-step-requires : goal.judge_step-step-requires
judge_step-step-requires c =
    progress_ready _ _ _ _ _ c.requires _ _ _ _ _ c.loop-i.invariant (omega arith)

pub returns-then-not-step : goal.returns-then-not-step
returns-then-not-step c =
    step_wrong _ _ _ (steps_length _ _ _) c.loop-i.i (omega arith) c.loop-i.invariant.proved (sym c.judge_step-step.ensures.judged ∙ not-true _ c.if-not-step.true)

pub loop-i-preserved : goal.loop-i-preserved
loop-i-preserved c =
    progress_next _ _ _ _ _ c.requires c.loop-i.i _ _ _ _ c.loop-i.invariant (omega arith)
    _ _ _ (omega arith) _ c.judge_step-step.ensures (not-false _ c.if-not-step.false)

pub returns-then-proof : goal.returns-then-proof
returns-then-proof c =
    let ready = c.requires in
    let proof = c.proves-proof.ensures (λ m h. c.loop-i.invariant.follow m (λ j l. h j (omega (arith, c.loop-i.invariant.few)))) in
    goal_right _ _ _ (steps_length _ _ _) c.loop-i.i (omega arith) c.loop-i.invariant.proved
    (sym (goal_judged _ _ ready.ranged ready.derives c.loop-i.i (omega (arith, c.loop-i.invariant.few)) _ _ c.loop-i.invariant.loaded
    _ _ _ c.atom_count.ensures c.goal.ensures num_empty) ∙ sym proof.0 ∙ c.if-proof.true)

pub returns-else-proof : goal.returns-else-proof
returns-else-proof c =
    let ready = c.requires in
    let proof = c.proves-proof.ensures (λ m h. c.loop-i.invariant.follow m (λ j l. h j (omega (arith, c.loop-i.invariant.few)))) in
    goal_wrong _ _ _ (steps_length _ _ _) c.loop-i.i (omega arith) c.loop-i.invariant.proved
    (sym (goal_judged _ _ ready.ranged ready.derives c.loop-i.i (omega (arith, c.loop-i.invariant.few)) _ _ c.loop-i.invariant.loaded
    _ _ _ c.atom_count.ensures c.goal.ensures num_empty) ∙ sym proof.0 ∙ c.if-proof.false)
