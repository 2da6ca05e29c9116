-- Worlds or steps, by the kind of the claim.
use mathlib.Core.Path.{sym, ◌∙◌}
use borrow.Author.Tests.{le-leb, lt-leb}
use Rattle.certificate.proofs.Chains.{and_then, and_else}
use Rattle.certificate.proofs.Numbers.{worlds_claim, steps_claim}
use Rattle.certificate.proofs.ranges.claim_in_range.Goals as goal

pub returns-then-count-le-WORLDS : goal.returns-then-count-le-WORLDS
returns-then-count-le-WORLDS c =
    c.worlds_in_range.ensures ∙ and_then _ _ (le-leb _ _ c.if-count-le-WORLDS.true) ∙ sym (worlds_claim _ _ _ _ _ _ c.if-sheet.true)

pub returns-else-count-le-WORLDS : goal.returns-else-count-le-WORLDS
returns-else-count-le-WORLDS c = and_else _ _ (lt-leb _ _ c.if-count-le-WORLDS.false) ∙ sym (worlds_claim _ _ _ _ _ _ c.if-sheet.true)

pub returns-then-count-le-STEPS : goal.returns-then-count-le-STEPS
returns-then-count-le-STEPS c =
    c.steps_in_range.ensures ∙ and_then _ _ (le-leb _ _ c.if-count-le-STEPS.true) ∙ sym (steps_claim _ _ _ _ _ _ c.if-sheet.false)

pub returns-else-count-le-STEPS : goal.returns-else-count-le-STEPS
returns-else-count-le-STEPS c = and_else _ _ (lt-leb _ _ c.if-count-le-STEPS.false) ∙ sym (steps_claim _ _ _ _ _ _ c.if-sheet.false)
