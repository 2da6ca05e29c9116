-- A set.
use mathlib.Core.Path.{ap, ◌∙◌}
use Prim.Native.Nat.{ℕ}
use Rattle.atoms.specs.Bytes.{put_at}
use Rattle.certificate.specs.Format.{world_row}
use Rattle.certify.proofs.rows.WorldsTable.put_row.Goals as goal

pub returns : goal.returns
unfolding world_row
returns c = c.store.ensures ∙ ap (λ (w : ℕ). put_at c.args.buffer.now c.args.at (world_row w)) c.row.ensures
