-- The kind, the start, the length.
use native.Mathlib.Omega.{arith}
use Rattle.certify.proofs.Parts.{entry_put}
use Rattle.certify.proofs.sheet.put_entry.Goals as goal

pub returns : goal.returns
returns c =
    entry_put _ _ _ _ _ _ _ _ (omega arith) (rw c.byte.ensures at c.put_byte.ensures) c.put.ensures c.put-2.ensures
