-- The sets that the code joins.
use Rattle.std.proofs.Common.{ℕ, eqb, ap, ◌∙◌, ap₂}
use Rattle.atoms.specs.Sets.{union, without_lowest}
use Rattle.sat.proofs.propagation.may_tell.Goals as goal

pub returns : goal.returns
returns c =
    c.is_empty.ensures ∙ ap (λ (z : ℕ). eqb z 0) (c.join.ensures ∙ ap₂ union
    c.settled.ensures
    (c.without_lowest.ensures ∙ ap without_lowest (c.atoms-open.ensures ∙ ap₂ union c.open.ensures.left c.open.ensures.right)))
