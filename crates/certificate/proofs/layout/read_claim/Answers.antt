-- The last entry and the end, test by test.
use mathlib.Core.Path.{sym, ◌∙◌}
use Rattle.certificate.proofs.Entries.{claim_missing, claim_few, claim_unended, claim_found}
use Rattle.certificate.proofs.layout.read_claim.Goals as goal

pub returns-in_err-rows : goal.returns-in_err-rows
returns-in_err-rows c =
    rw c.from_residual.ensures
    (claim_missing _ _ _ _ _ _ _ _ _ c.requires c.byte.ensures c.claim_kind.ensures c.claim_at.ensures c.claim_width.ensures 0 c.in_err-rows.ensures.read)

pub returns-then-rows-claim_least : goal.returns-then-rows-claim_least
returns-then-rows-claim_least c =
    λ there. claim_few _ _ _ _ _ _ _ _ _ c.requires c.byte.ensures c.claim_kind.ensures c.claim_at.ensures c.claim_width.ensures
    _ _ c.in_ok-rows.ensures.read _ c.claim_least.ensures c.if-rows-claim_least.true

pub returns-then-not-makes_up : goal.returns-then-not-makes_up
returns-then-not-makes_up c =
    λ there. claim_unended _ _ _ _ _ _ _ _ _ c.requires c.byte.ensures c.claim_kind.ensures c.claim_at.ensures c.claim_width.ensures
    _ _ c.in_ok-rows.ensures.read _ c.length.ensures (sym c.makes_up.ensures ∙ c.if-not-makes_up.true)

pub returns : goal.returns
returns c =
    claim_found _ _ _ _ _ _ _ _ _ c.requires c.byte.ensures c.claim_kind.ensures c.claim_at.ensures c.claim_width.ensures
    _ _ c.in_ok-rows.ensures.read _ c.length.ensures
    _ c.claim_least.ensures c.if-rows-claim_least.false (sym c.makes_up.ensures ∙ c.if-not-makes_up.false)
