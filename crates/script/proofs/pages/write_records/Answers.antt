use Rattle.std.proofs.Common.{arith, ap}
use lib.Seq.{take_all}
use Rattle.text.proofs.Appending.{same_text, both, nothing}
use Rattle.script.specs.Answer.{records_lines}
use Rattle.script.proofs.PageLines.{lines_next}
use Rattle.script.proofs.pages.write_records.Goals as goal

pub loop-i-init : goal.loop-i-init
loop-i-init c = nothing _

pub loop-i-preserved : goal.loop-i-preserved
loop-i-preserved c = same_text (lines_next c.args.records.now c.loop-i.i _ (omega arith)) (both c.loop-i.invariant c.write_record.ensures)

pub returns : goal.returns
returns c = same_text (ap (records_lines 0) (take_all c.loop-i.i c.args.records.now (omega arith))) c.loop-i.invariant
