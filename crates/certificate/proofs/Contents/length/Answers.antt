-- A row of the claim has at most the bytes of a step.
use native.Mathlib.Omega.{arith}
use mathlib.Core.Path.{ap₂}
use Prim.Native.Nat.{◌+◌, ◌*◌}
use Rattle.certificate.proofs.Entries.{claim_bytes}
use Rattle.certificate.proofs.Contents.length.Goals as goal

pub overflow_mul-result : goal.overflow_mul-result
overflow_mul-result c =
    let self = c.args.self in
    record { fits = omega (arith, claim_bytes self.refuting c.claim_width.result self.rows c.claim_width.ensures) }

pub overflow_add-result : goal.overflow_add-result
overflow_add-result c =
    let self = c.args.self in
    record { fits = omega (arith, claim_bytes self.refuting c.claim_width.result self.rows c.claim_width.ensures) }

pub returns : goal.returns
returns c = ap₂ (λ x w. x + w * c.args.self.rows) c.claim_at.ensures c.claim_width.ensures
