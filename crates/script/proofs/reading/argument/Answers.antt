-- By the first word.
use Rattle.script.proofs.Splitting.{no_words}
use Rattle.script.proofs.reading.argument.Goals as goal

pub returns-in_err-word : goal.returns-in_err-word
returns-in_err-word g c = rw c.from_residual.ensures (rw (no_words _ c.in_err-word.ensures))
