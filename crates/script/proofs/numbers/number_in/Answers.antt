-- Digit by digit.
use Rattle.std.proofs.Common.{sym, subst, arith}
use Rattle.script.proofs.Values.{Passed, none_passed, no_digit, past_bound, next_digit, all_passed}
use Rattle.script.proofs.numbers.number_in.Goals as goal

pub loop-b-init : goal.loop-b-init
loop-b-init g c = subst (Passed g.N.Number.bound c.args.word.now 0) (sym c.zero-number.ensures.0) (none_passed _ _ c.zero-number.ensures.1)

pub returns-in_err-digit : goal.returns-in_err-digit
returns-in_err-digit g c = rw c.from_residual.ensures (no_digit c.loop-b.invariant (omega arith) c.in_err-digit.ensures)

pub returns-in_err-number : goal.returns-in_err-number
returns-in_err-number g c =
    rw c.from_residual-in_err-number.ensures (past_bound c.loop-b.invariant (omega arith) (rw c.in_ok-digit.ensures.1 at c.in_err-number.ensures))

pub loop-b-preserved : goal.loop-b-preserved
loop-b-preserved g c =
    let longer = rw c.in_ok-digit.ensures.1 at c.in_ok-number.ensures in
    next_digit c.loop-b.invariant (omega arith) c.in_ok-digit.ensures.0 _ longer.0 longer.1

pub returns : goal.returns
returns g c = all_passed c.loop-b.invariant (omega arith)
