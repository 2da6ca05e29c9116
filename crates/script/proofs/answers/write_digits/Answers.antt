-- The digits between two words.
use Rattle.text.specs.Text.{ascii}
use Rattle.text.proofs.Appending.{both}
use Rattle.script.proofs.answers.write_digits.Goals as goal

pub returns : goal.returns
unfolding ascii
returns c =
    both c.word.ensures (both c.hex.ensures c.word-2.ensures)
