use native.Mathlib.Omega.{arith}
use Rattle.prover.specs.Told.{number_in}
use Rattle.bench.proofs.Calls.{one_at_most, none_counted, next_counted, all_counted}
use Rattle.bench.proofs.zestanchor_calls.Goals as goal

pub loop-i-init : goal.loop-i-init
loop-i-init c = none_counted _ _ _ c.new-s.ensures

pub overflow_add-refused : goal.overflow_add-refused
overflow_add-refused c =
    omega (arith, c.loop-i.invariant.few, c.loop-i-test.true, c.one_if_refused-refused.ensures, one_at_most (number_in c.call_at.result))

pub loop-i-preserved : goal.loop-i-preserved
loop-i-preserved c = rw c.one_if_refused-refused.ensures (next_counted _ _ c.loop-i.invariant _ c.call_at.ensures)

pub returns : goal.returns
returns c = all_counted _ _ c.loop-i.invariant (omega (arith, c.loop-i.auto.i-end, c.loop-i-test.false))
