-- Refusal by refusal.
use mathlib.Core.Path.{sym, ap, ◌∙◌}
use Rattle.certificate.specs.Judge.{judge_claim}
use Rattle.certificate.specs.Checked.{found_at}
use Rattle.certificate.proofs.Judging.{unranged, unclosed, claimed}
use Rattle.certificate.proofs.check_bodies.Goals as goal

pub returns-then-not-in_range : goal.returns-then-not-in_range
returns-then-not-in_range c = unranged _ _ (sym c.in_range.ensures ∙ c.if-not-in_range.true)

pub returns-then-not-all_closed : goal.returns-then-not-all_closed
returns-then-not-all_closed c =
    unclosed _ _ (sym c.in_range.ensures ∙ c.if-not-in_range.false) (sym c.all_closed.ensures ∙ c.if-not-all_closed.true)

pub returns-in-None : goal.returns-in-None
unfolding judge_claim
returns-in-None c =
    claimed _ _ (sym c.in_range.ensures ∙ c.if-not-in_range.false) (sym c.all_closed.ensures ∙ c.if-not-all_closed.false)
    _ (ap found_at (sym c.in-None.is) ∙ c.wrong_place.ensures)

pub returns-in-Some : goal.returns-in-Some
unfolding judge_claim
returns-in-Some c =
    claimed _ _ (sym c.in_range.ensures ∙ c.if-not-in_range.false) (sym c.all_closed.ensures ∙ c.if-not-all_closed.false)
    _ (ap found_at (sym c.in-Some.is) ∙ c.wrong_place.ensures)
