-- Two rows are set.
use mathlib.Core.Path.{ap, ◌∙◌}
use Rattle.atoms.specs.Sets.{minus}
use Rattle.prover.proofs.Rows.{row_set_as}
use Rattle.prover.proofs.working.Known.write_learned.Goals as goal

pub returns : goal.returns
returns c = (
  row_set_as c.set_row.ensures (c.without.ensures ∙ ap (minus _) c.single.ensures),
  row_set_as c.set_row-2.ensures c.single-2.ensures,
)
