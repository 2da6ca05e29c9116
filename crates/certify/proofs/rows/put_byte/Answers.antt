-- A byte is its own digit.
use borrow.Author.Rules.{rules}
use Rattle.certify.proofs.Parts.{byte_put}
use Rattle.certify.proofs.rows.put_byte.Goals as goal

pub returns : goal.returns
returns c = byte_put _ _ _ _ (search rules) (rw c.from.ensures at c.put.ensures)
