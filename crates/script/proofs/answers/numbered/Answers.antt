-- A number between two words.
use Rattle.text.proofs.Appending.{both}
use Rattle.script.proofs.answers.numbered.Goals as goal

pub returns : goal.returns
returns c = both c.figure.ensures c.word.ensures
