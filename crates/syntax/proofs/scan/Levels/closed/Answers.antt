-- By the test.
use native.Mathlib.Omega.{arith}
use Rattle.syntax.proofs.Levels.{closed_none, closed_level}
use Rattle.syntax.proofs.scan.Levels.closed.Goals as goal

pub returns-in_err-depth : goal.returns-in_err-depth
returns-in_err-depth c = rw c.from_residual.ensures (closed_none c.args.self (omega (arith, c.in_err-depth.ensures)))

pub returns : goal.returns
returns c =
    let level = c.in_ok-depth.ensures in
    closed_level c.args.self (λ e. omega (arith, e, level.0)) _ level.1 _ c.has.ensures
