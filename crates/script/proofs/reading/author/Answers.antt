-- No word, or a byte behind its own.
use Rattle.text.specs.Text.{ascii}
use Rattle.script.proofs.Verbs.{unlike}
use Rattle.script.proofs.Calling.{no_author, author_behind, another_word}
use Rattle.script.proofs.reading.author.Goals as goal

pub returns-in_default : goal.returns-in_default
returns-in_default c = no_author _ c.in_default.ensures

pub returns-then-same : goal.returns-then-same
unfolding ascii
returns-then-same c = author_behind c.in-Some.ensures (c.same.ensures.equal c.if-same.true) c.only_byte.ensures

pub returns-else-same : goal.returns-else-same
unfolding ascii
returns-else-same c = another_word c.in-Some.ensures (unlike _ _ _ c.same.ensures.told c.if-same.false)
