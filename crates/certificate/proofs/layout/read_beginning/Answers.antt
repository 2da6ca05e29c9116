-- The entries one after the other; each that is not as it must be breaks the layout.
use mathlib.Core.Path.{◌≡◌, sym, ◌∙◌, subst}
use Prim.Native.Nat.{ℕ, ◌+◌}
use lib.ListN.{length}
use Rattle.std.proofs.Common.{Bor, List, Option}
use Rattle.certificate.specs.Checked.{EntryRead, RowsRead, ClaimRead}
use Rattle.certificate.specs.declared.reader.Reader.{Reader}
use Rattle.certificate.proofs.Entries.{broken_four, broken_first, broken_second, broken_third, broken_goal, last_place, claim_read}
use Rattle.certificate.proofs.layout.read_beginning.Goals as goal

-- Each reader goes on in the same bytes.
by : (src : Bor (List ℕ)) (kind start extra width : ℕ) (before after : Reader) (r : Option ℕ) → before.src ≡ src → RowsRead before kind start extra width after r
    → EntryRead src.now before.at kind start extra width after.at r
by src kind start extra width before after r e h = subst (λ (z : Bor (List ℕ)). EntryRead z.now before.at kind start extra width after.at r) e h.read

pub returns-then-byte-ne-ENTRIES : goal.returns-then-byte-ne-ENTRIES
returns-then-byte-ne-ENTRIES c = λ there. broken_four _ _ _ c.byte.ensures c.if-byte-ne-ENTRIES.true

pub returns-in_err-counts : goal.returns-in_err-counts
returns-in_err-counts c = rw c.from_residual.ensures (broken_first _ _ 0 c.in_err-counts.ensures.read)

pub returns-in_err-counts-2 : goal.returns-in_err-counts-2
returns-in_err-counts-2 c =
    rw c.from_residual-in_err-counts-2.ensures
    (broken_second _ _ _ _ c.in_ok-counts.ensures.read _ c.implications_at.ensures 0 (by _ _ _ _ _ _ _ _ c.rows.ensures.same c.in_err-counts-2.ensures))

pub returns-in_err-goals : goal.returns-in_err-goals
returns-in_err-goals c =
    rw c.from_residual-in_err-goals.ensures
    (broken_third _ _ _ _ c.in_ok-counts.ensures.read _ c.implications_at.ensures
    _ _ (by _ _ _ _ _ _ _ _ c.rows.ensures.same c.in_ok-counts-2.ensures) _ c.goal_at.ensures
    0 (by _ _ _ _ _ _ _ _ (c.rows-2.ensures.same ∙ c.rows.ensures.same) c.in_err-goals.ensures))

pub returns-then-goals-ne1 : goal.returns-then-goals-ne1
returns-then-goals-ne1 c =
    λ there. broken_goal _ _ _ _ c.in_ok-counts.ensures.read _ c.implications_at.ensures
    _ _ (by _ _ _ _ _ _ _ _ c.rows.ensures.same c.in_ok-counts-2.ensures) _ c.goal_at.ensures
    _ _ (by _ _ _ _ _ _ _ _ (c.rows-2.ensures.same ∙ c.rows.ensures.same) c.in_ok-goals.ensures) c.if-goals-ne1.true

pub read_claim-requires : goal.read_claim-requires
read_claim-requires c =
    last_place c.args.bytes.now 0 _ _ c.in_ok-counts.ensures.read _ c.implications_at.ensures
    _ _ (by _ _ _ _ _ _ _ _ c.rows.ensures.same c.in_ok-counts-2.ensures) _ c.goal_at.ensures
    _ _ (by _ _ _ _ _ _ _ _ (c.rows-2.ensures.same ∙ c.rows.ensures.same) c.in_ok-goals.ensures)

pub returns : goal.returns
returns c =
    claim_read _ _ _ _ c.in_ok-counts.ensures.read _ c.implications_at.ensures
    _ _ (by _ _ _ _ _ _ _ _ c.rows.ensures.same c.in_ok-counts-2.ensures) _ c.goal_at.ensures
    _ _ (by _ _ _ _ _ _ _ _ (c.rows-2.ensures.same ∙ c.rows.ensures.same) c.in_ok-goals.ensures)
    (sym c.byte.ensures ∙ c.if-byte-ne-ENTRIES.false) c.if-goals-ne1.false c.read_claim.result
    (subst (λ (z : Bor (List ℕ)). ClaimRead z.now (length z.now + c.args.more) c.in_ok-counts.field-0 c.in_ok-counts-2.field-0 c.read_claim.result)
    (c.rows-3.ensures.same ∙ c.rows-2.ensures.same ∙ c.rows.ensures.same) c.read_claim.ensures)
