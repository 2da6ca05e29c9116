-- The label, then the number.
use Rattle.text.proofs.Appending.{both}
use Rattle.text.proofs.draft.Draft.labelled.Goals as goal

pub returns : goal.returns
returns c = both c.word.ensures c.set.ensures
