-- The session and the goal of the text.
use mathlib.Core.Path.{refl}
use Rattle.script.proofs.answers.read_text.Goals as goal

pub returns : goal.returns
returns c s = (_, (_, c.clausify-clausified.ensures, refl, refl), c.write_clausified.ensures)
