use mathlib.Core.Path.{sym, ap, ◌∙◌}
use native.Mathlib.Omega.{arith}
use Rattle.ipl.specs.Search.{drop_from}
use Rattle.prover.proofs.Dropping.{drop_next, drop_end}
use Rattle.prover.proofs.working.Known.drop_atoms.Goals as goal

pub loop-k-preserved : goal.loop-k-preserved
loop-k-preserved c = (
  c.loop-k.invariant.0 ∙ drop_next _ _ _ _ (omega arith) ∙ ap (drop_from _ _ _) (sym c.drop_atom-rest.ensures.0),
  c.drop_atom-rest.ensures.1,
)

pub returns : goal.returns
returns c = (sym (c.loop-k.invariant.0 ∙ drop_end _ _ _ _ (omega arith)), c.loop-k.invariant.1)
