-- The number is that of its set.
use Rattle.text.proofs.draft.Draft.figure.Goals as goal

pub returns : goal.returns
returns c = rw c.numbered.ensures at c.labelled.ensures
