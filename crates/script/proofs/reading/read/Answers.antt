-- Silent lines, lines that are too long, and calls.
use Rattle.std.proofs.Common.{arith}
use Rattle.script.proofs.Splitting.{some_byte}
use Rattle.script.proofs.Silence.{silent_blank, silent_comment, too_long, read_call}
use Rattle.script.proofs.reading.read.Goals as goal

pub returns-in_default : goal.returns-in_default
returns-in_default c = silent_blank _ c.in_default.ensures

pub bounds-line-0 : goal.bounds-line-0
bounds-line-0 c = some_byte c.in-Some.ensures

pub returns-then-line-eq35 : goal.returns-then-line-eq35
returns-then-line-eq35 c = silent_comment _ (some_byte c.in-Some.ensures) c.if-line-eq35.true

pub returns-then-line-gt-MOST_BYTES : goal.returns-then-line-gt-MOST_BYTES
returns-then-line-gt-MOST_BYTES c = too_long c.in-Some.ensures c.if-line-eq35.false c.if-line-gt-MOST_BYTES.true

pub returns : goal.returns
returns c = rw c.unwrap_or.ensures (read_call c.in-Some.ensures c.if-line-eq35.false (omega arith) c.call_of.result (rw c.verb_of.ensures at c.call_of.ensures))
