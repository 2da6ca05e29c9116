-- With b = ⊥ none is needed; else it is looked for.
use mathlib.Core.Path.{◌∙◌}
use borrow.Author.Tests.{eq-eqb}
use Rattle.certificate.proofs.Closing.{closed_bottom, closed_listed}
use Rattle.certificate.proofs.closing_clauses.is_closed.Goals as goal

pub returns-then-x-eq-BOTTOM : goal.returns-then-x-eq-BOTTOM
returns-then-x-eq-BOTTOM c = eq-eqb _ _ c.if-x-eq-BOTTOM.true ∙ closed_bottom _ _ c.if-x-eq-BOTTOM.true

pub returns-else-x-eq-BOTTOM : goal.returns-else-x-eq-BOTTOM
returns-else-x-eq-BOTTOM c =
    c.has_flat.ensures ∙ closed_listed _ _ c.if-x-eq-BOTTOM.false c.requires _ _ c.single.ensures c.single-else-x-eq-BOTTOM.ensures
