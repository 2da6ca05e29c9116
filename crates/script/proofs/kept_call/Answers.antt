-- By the length.
use Rattle.script.proofs.Calls.{blank_silent, whole_read, comment_silent, long_no_call}
use native.Mathlib.Omega.{arith}
use Rattle.script.proofs.kept_call.Goals as goal

pub returns-then-blank : goal.returns-then-blank
returns-then-blank c = blank_silent _ _ c.if-blank.true

pub returns-then-line-le-MOST_BYTES : goal.returns-then-line-le-MOST_BYTES
returns-then-line-le-MOST_BYTES c = whole_read _ _ _ (omega arith) c.read.ensures

pub returns-then-line-eq35 : goal.returns-then-line-eq35
returns-then-line-eq35 c = comment_silent _ _ (omega arith) c.if-blank.false (omega arith)

pub returns-else-line-eq35 : goal.returns-else-line-eq35
returns-else-line-eq35 c = long_no_call _ _ (omega arith) c.if-blank.false (λ e. omega arith)
