-- The worlds, or the steps.
use mathlib.Core.Path.{ap, ◌∙◌}
use Rattle.atoms.specs.Words.{row_of}
use Rattle.atoms.specs.Bytes.{put_at}
use Rattle.prover.specs.State as state
use Rattle.prover.proofs.Sessions.{steps_count}
use Rattle.certificate.specs.Format.{claim_rows, step_row, world_row}
use Rattle.certify.proofs.Bodies.{rows_each}
use Rattle.certify.proofs.sheet.put_claim.Goals as goal

pub put_table-requires : goal.put_table-requires
put_table-requires c = (rw c.if-refuting.true at c.requires.1, tt)

pub put_table-requires-else-refuting : goal.put_table-requires-else-refuting
put_table-requires-else-refuting c = (rw c.if-refuting.false at c.requires.1, (steps_count c.args.s.now c.requires.0).0)

pub returns-then-refuting : goal.returns-then-refuting
unfolding claim_rows
returns-then-refuting c =
    let t = c.args.s.now.worlds in
    rw c.if-refuting.true (c.put_table.ensures ∙ ap (put_at c.args.buffer.now c.args.at) (rows_each world_row (row_of t.sets) t.count))

pub returns-else-refuting : goal.returns-else-refuting
unfolding claim_rows
returns-else-refuting c =
    let t = c.args.s.now.steps in
    rw c.if-refuting.false (c.put_table-else-refuting.ensures ∙ ap (put_at c.args.buffer.now c.args.at) (rows_each step_row (state.step_row t) t.count))
