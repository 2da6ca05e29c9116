use mathlib.Core.Path.{ap}
use Rattle.atoms.specs.Sets.{minus}
use Rattle.atoms.specs.Words.{num, single_or_empty}
use Rattle.ipl.specs.Clause.{Implication}
use Rattle.prover.proofs.Rows.{row_set_as, steps_more}
use Rattle.prover.specs.State.{implication_row}
use Rattle.prover.proofs.working.Known.write_steps.Goals as goal

pub loop-k-preserved : goal.loop-k-preserved
loop-k-preserved c =
    let i = ap (implication_row c.args.x.now) c.from.ensures in
    steps_more _ _ _ _ _ _ _ _ _ _ c.requires c.loop-k-test.true c.loop-k.invariant
    _ c.row.ensures (row_set_as c.write_learned.ensures.0 (ap (λ (i : Implication). minus (num c.row.result) (single_or_empty i.a)) i))
    (row_set_as c.write_learned.ensures.1 (ap (λ (i : Implication). single_or_empty i.c) i))
