-- A set to a word.
use borrow.Author.Rules.{rules}
use Rattle.atoms.specs.Words.{row_count}
use Rattle.atoms.proofs.rows.Goals as goal

pub returns : goal.returns
unfolding row_count
returns c = search rules
