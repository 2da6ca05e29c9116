-- Two numbers behind their labels.
use Rattle.text.specs.Text.{ascii}
use Rattle.text.proofs.Appending.{both}
use Rattle.script.proofs.pages.figured.Goals as goal

pub returns : goal.returns
unfolding ascii
returns c =
    both (both c.figure.ensures c.figure-2.ensures) c.word.ensures
