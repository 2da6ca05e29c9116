-- The number, then what follows it.
use Rattle.text.proofs.Appending.{both}
use Rattle.fork_table.proofs.write_entry.Goals as goal

pub returns : goal.returns
returns c = both (rw (c.from.ensures, c.implication.ensures) at c.figure.ensures) c.word.ensures
