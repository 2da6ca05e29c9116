-- By the table's entry: its constants are the implications, each computed from the definition.
use Rattle.ipl.specs.Lists.{all, tabulate}
use Rattle.fork.specs.Algebra.{meet, within, is_implication, number_with, implication}
use Rattle.fork.proofs.Operations.{table, implication_entry}
use Rattle.fork.proofs.algebra.implication.Goals as goal

pub returns : goal.returns
unfolding all tabulate meet within is_implication number_with implication table
returns c = rw (c.from.ensures, c.from-2.ensures) (implication_entry _ _ c.requires.0 c.requires.1)
