-- The left set, then the right.
use mathlib.Core.Path.{ap₂, ◌∙◌}
use Prim.Native.Nat.{ℕ}
use Rattle.atoms.specs.Bytes.{put_at}
use Rattle.certificate.specs.Format.{flat_row}
use Rattle.certify.proofs.Parts.{flat_put}
use Rattle.certify.proofs.rows.FlatsTable.put_row.Goals as goal

pub returns : goal.returns
returns c =
    flat_put _ _ _ _ _ _ c.requires.2 c.store.ensures c.store-2.ensures
    ∙ ap₂ (λ (l r : ℕ). put_at c.args.buffer.now c.args.at (flat_row (record { left = l; right = r }))) c.row.ensures c.row-2.ensures
