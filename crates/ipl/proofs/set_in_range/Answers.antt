-- Within the set of all atoms below n.
use mathlib.Core.Path.{ap, ◌∙◌}
use Rattle.atoms.specs.Sets.{within}
use Rattle.ipl.proofs.Range.{within_below}
use Rattle.ipl.proofs.set_in_range.Goals as goal

pub returns : goal.returns
returns c = c.within.ensures ∙ ap (within _) c.below.ensures ∙ within_below _ _ c.bounded.ensures
