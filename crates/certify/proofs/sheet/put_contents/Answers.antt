-- Byte 0 and the four entries, one after the other.
use Rattle.certify.proofs.Parts.{contents_put_at}
use Rattle.certify.proofs.sheet.put_contents.Goals as goal

pub returns : goal.returns
returns c =
    let k = c.args.k in
    contents_put_at k.flats k.implications k.refuting k.rows _ _ _ _ _ c.implications_at-implications_at.ensures c.goal_at-goal_at.ensures
    c.claim_at-claim_at.ensures c.length.ensures c.claim_kind.ensures _ _ _ _ _ _ c.requires c.put_byte.ensures
    c.put_entry.ensures c.put_entry-2.ensures c.put_entry-3.ensures c.put_entry-4.ensures
