-- 17, on a session in range.
use borrow.Author.Tests.{lt-ltb, le-ltb}
use native.Mathlib.Omega.{arith}
use Rattle.ipl.specs.Marks.{mark_table}
use Rattle.ipl.specs.Book.{mark_refusal}
use Rattle.prover.proofs.Session.check_mark.Goals as goal

pub returns-else-from-lt-MARKS : goal.returns-else-from-lt-MARKS
unfolding mark_refusal
returns-else-from-lt-MARKS c = rw (c.in_ok-check.ensures, le-ltb c.args.mark mark_table (omega arith))

pub returns-then-from-lt-MARKS : goal.returns-then-from-lt-MARKS
unfolding mark_refusal
returns-then-from-lt-MARKS c = rw (c.in_ok-check.ensures, lt-ltb c.args.mark mark_table (omega arith))
