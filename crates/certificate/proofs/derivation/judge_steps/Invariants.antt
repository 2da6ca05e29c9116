-- The steps passed are right; then the goal.
use Rattle.certificate.proofs.Learning.{Progress}
use Rattle.certificate.proofs.derivation.judge_steps.Given as goal

abbrev pub invariant-loop-i : goal.invariant-loop-i
invariant-loop-i l =
    Progress l.sheet.bytes.now l.sheet.contents l.i l.initial.left l.initial.right l.left l.right l.initial.kept l.kept l.learned
