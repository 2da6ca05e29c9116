-- The closing clause, where there is one.
use mathlib.Core.Path.{◌∙◌}
use Rattle.prover.specs.State.{flats_of}
use Rattle.prover.proofs.Refusals.{closing_none, closing_some}
use Rattle.prover.proofs.Flats.push_closing.Goals as goal

pub push-requires : goal.push-requires
push-requires c = c.requires.row c.if-i-ne-BOTTOM.true

pub returns-then-i-ne-BOTTOM : goal.returns-then-i-ne-BOTTOM
returns-then-i-ne-BOTTOM c =
    c.push.ensures
    ∙ closing_some (flats_of c.args.self.now) _ _ _ _ _ c.if-i-ne-BOTTOM.true
    (c.single.ensures ∙ c.requires.b_atom) (c.single-then-i-ne-BOTTOM.ensures ∙ c.requires.c_atom)

pub returns-else-i-ne-BOTTOM : goal.returns-else-i-ne-BOTTOM
returns-else-i-ne-BOTTOM c = closing_none _ _ _ _ c.if-i-ne-BOTTOM.false
