-- Absent, dropped or kept.
use mathlib.Core.Path.{sym, ◌∙◌}
use Rattle.prover.proofs.Dropping.{drop_absent, drop_taken, drop_kept}
use Rattle.prover.proofs.working.Known.drop_atom.Goals as goal

pub returns-then-not-has : goal.returns-then-not-has
returns-then-not-has c = (drop_absent _ _ _ _ _ (sym c.has.ensures ∙ c.if-not-has.true), c.requires.2)

pub returns-then-proves : goal.returns-then-proves
returns-then-proves c = (
  drop_taken _ _ _ _ _ (sym c.has.ensures ∙ c.if-not-has.false) c.requires.0 c.requires.1
      _ _ c.single.ensures c.without-rest.ensures (sym c.proves.ensures.0 ∙ c.if-proves.true),
  c.proves.ensures.1,
)

pub returns-else-proves : goal.returns-else-proves
returns-else-proves c = (
  drop_kept _ _ _ _ _ (sym c.has.ensures ∙ c.if-not-has.false) c.requires.0 c.requires.1
      _ _ c.single.ensures c.without-rest.ensures (sym c.proves.ensures.0 ∙ c.if-proves.false),
  c.proves.ensures.1,
)
