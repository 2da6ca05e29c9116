-- The level that is left is kept as it was.
use mathlib.Core.Path.{◌∙◌, ap}
use Rattle.atoms.specs.Words.{num}
use Rattle.syntax.proofs.Levels.{opened_with, opened_without}
use Rattle.syntax.proofs.scan.Levels.opened.Goals as goal
use Rattle.syntax.proofs.scan.Levels.opened.Goals.{else-self, then-self}

pub returns : goal.returns
returns c =
    elim c.if-self.branch [ then-self w ↦ opened_with c.args.self c.requires _ _ c.single-left.ensures w.if-self.true (ap num w.outer-is ∙ w.join-outer.ensures) | else-self w ↦ opened_without c.args.self c.requires _ _ c.single-left.ensures w.if-self.false (ap num w.outer-is ∙ w.without-outer.ensures) ]
