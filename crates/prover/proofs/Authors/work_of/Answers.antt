-- A row, or none.
use mathlib.Core.Path.{sym}
use native.Mathlib.Omega.{arith}
use Rattle.prover.proofs.Works.{row_at, no_row_at}
use Rattle.prover.proofs.Authors.work_of.Goals as goal

pub returns-then-at-lt-AUTHORS : goal.returns-then-at-lt-AUTHORS
returns-then-at-lt-AUTHORS c = rw c.from-at.ensures (sym (row_at c.args.self.now c.args.author (omega arith)))

pub returns-else-at-lt-AUTHORS : goal.returns-else-at-lt-AUTHORS
returns-else-at-lt-AUTHORS c = sym (no_row_at c.args.self.now c.args.author (omega arith))
