-- The number, then the set.
use mathlib.Core.Path.{ap, ◌∙◌}
use Prim.Native.Nat.{ℕ}
use Rattle.atoms.specs.Bytes.{put_at}
use Rattle.prover.specs.State.{byte_at}
use Rattle.certificate.specs.Format.{step_row}
use Rattle.certify.proofs.Parts.{step_put}
use Rattle.certify.proofs.rows.StepsTable.put_row.Goals as goal

pub returns : goal.returns
returns c =
    step_put _ _ _ _ _ _ c.requires.2 c.put_byte.ensures c.store.ensures
    ∙ ap (λ (x : ℕ). put_at c.args.buffer.now c.args.at (step_row (record { number = byte_at c.args.self.now.numbers c.args.i; assumed = x }))) c.row.ensures
