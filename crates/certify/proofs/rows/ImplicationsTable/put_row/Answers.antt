-- Three bytes.
use Rattle.certify.proofs.Parts.{implication_put}
use Rattle.certify.proofs.rows.ImplicationsTable.put_row.Goals as goal

pub returns : goal.returns
returns c = implication_put _ _ _ _ _ _ _ _ c.requires.2 c.put_byte.ensures c.put_byte-2.ensures c.put_byte-3.ensures
