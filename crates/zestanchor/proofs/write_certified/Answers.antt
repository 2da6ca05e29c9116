-- By the answer of the writer.
use mathlib.Core.Path.{ap, ◌∙◌}
use Rattle.std.specs.Prelude.{Err}
use Rattle.zestanchor.proofs.Sheet.{written_certified, unwritten_certified, refusal_certified}
use Rattle.zestanchor.proofs.write_certified.Goals as goal

pub returns-in-Ok : goal.returns-in-Ok
returns-in-Ok c s h = written_certified s _ h _ _ _ c.write.ensures _ c.in-Ok.is

pub returns-in-NoVerdict : goal.returns-in-NoVerdict
returns-in-NoVerdict c s h = refusal_certified s _ h _ _ _ c.write.ensures (c.in-Err.is ∙ ap Err c.in-NoVerdict.is) _ _ c.report.ensures

pub returns-in_default : goal.returns-in_default
returns-in_default c s h = unwritten_certified s _ h _ _ _ c.write.ensures _ c.in-Err.is c.in_default.not-NoVerdict
