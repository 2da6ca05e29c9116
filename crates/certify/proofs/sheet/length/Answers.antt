-- By the counts.
use mathlib.Core.Path.{sym, ◌∙◌}
use Rattle.certify.proofs.Whole.{length_counted}
use Rattle.certify.proofs.sheet.length.Goals as goal

pub returns : goal.returns
returns c = λ g. c.length.ensures ∙ sym (length_counted c.args.s.now g c.args.refuting _ c.contents_of.ensures)
