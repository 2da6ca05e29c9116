-- The cycle of calls {set}: its measure is the set's number.
use Rattle.atoms.specs.Words.{num}
use Rattle.text.proofs.draft.Draft.+set.Given as goal

abbrev pub decreases-set : goal.decreases-set
decreases-set l = num l.s
