-- The lines of the records before i.
use Rattle.std.proofs.Common.{take}
use Rattle.text.specs.Output.{Appends}
use Rattle.script.specs.Answer.{records_lines}
use Rattle.script.proofs.pages.write_records.Given as goal

abbrev pub invariant-loop-i : goal.invariant-loop-i
invariant-loop-i l = Appends (records_lines 0 (take l.i l.records)) l.initial.draft l.draft
