-- What both looks pass is all.
use Rattle.std.proofs.Common.{le_trans, arith}
use native.Mathlib.Decide.{dec_lt}
use Rattle.sat.proofs.propagation.failing.Goals as goal

pub returns-then-late-t : goal.returns-then-late-t
returns-then-late-t c h = absurd (omega arith)

pub returns-then-early-from : goal.returns-then-early-from
returns-then-early-from c h k l = c.next_failing-early.ensures.passed k (omega arith) (le_trans l h)

pub returns : goal.returns
returns c h k l =
    elim (dec_lt k c.args.from) [
      | yes m ↦ c.next_failing-early.ensures.passed k (omega arith) (omega arith)
      | no m ↦ c.next_failing-late.ensures.passed k (omega arith) (omega arith)
    ]
