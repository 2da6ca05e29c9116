-- The draft is handed over.
use Rattle.std.proofs.Common.{length, ap, ◌∙◌}
use Rattle.text.proofs.Appending.{begun, reported_gives}
use Rattle.fork_table.proofs.Texts.{table_fits}
use Rattle.fork_table.proofs.write_table.Goals as goal

pub returns : goal.returns
returns c =
    let written = c.write_rows.ensures in
    reported_gives table_fits (c.hand_over.ensures _ (begun c.new-draft.ensures.empty written) (written.size ∙ ap length c.new-draft.ensures.same))
