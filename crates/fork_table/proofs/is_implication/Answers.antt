-- The tests before d hold; the first that fails decides.
use Rattle.std.proofs.Common.{arith, sym}
use Rattle.fork_table.proofs.Implications.{not_such, not_greatest, none_passed, passed_outside, passed_within, greatest}
use Rattle.fork_table.proofs.is_implication.Goals as goal
use Rattle.fork_table.proofs.is_implication.Goals.{else-common_within-via-then-common_within+else-not-within, else-common_within-via-else-common_within}

pub returns-then-not-common_within : goal.returns-then-not-common_within
returns-then-not-common_within c = not_such _ _ _ (sym c.if-not-common_within.ensures)

pub loop-d-init : goal.loop-d-init
loop-d-init c = none_passed _ _ _

pub returns-then-not-within : goal.returns-then-not-within
returns-then-not-within c =
    not_greatest _ _ _ c.loop-d.d (omega arith) (sym c.if-common_within.ensures) (sym c.if-not-within.ensures)

pub loop-d-preserved : goal.loop-d-preserved
loop-d-preserved c = elim c.else-common_within.branch [
  | else-common_within-via-then-common_within+else-not-within w ↦
      passed_within _ _ _ c.loop-d.d c.loop-d.invariant (sym w.if-not-within.ensures)
  | else-common_within-via-else-common_within w ↦ passed_outside _ _ _ c.loop-d.d c.loop-d.invariant (sym w.if-common_within.ensures)
]

pub returns : goal.returns
returns c = greatest _ _ _ c.loop-d.d (omega arith) (omega arith) c.loop-d.invariant (sym c.if-not-common_within.ensures)
