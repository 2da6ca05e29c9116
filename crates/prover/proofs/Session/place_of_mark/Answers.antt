-- 17, then 18, on a session in range.
use borrow.Author.Tests.{lt-ltb, le-ltb}
use mathlib.Core.Path.{sym}
use native.Mathlib.Omega.{arith}
use Rattle.ipl.specs.Marks.{mark_table, is_set}
use Rattle.ipl.specs.Book.{return_refusal}
use Rattle.ipl.proofs.Lists.{tabulate_length}
use Rattle.prover.proofs.Sessions.{few_marks}
use Rattle.prover.proofs.Session.place_of_mark.Goals as goal

pub returns-then-from-ge-MARKS-clause-number : goal.returns-then-from-ge-MARKS-clause-number
unfolding return_refusal
returns-then-from-ge-MARKS-clause-number c = rw (c.in_ok-check.ensures, le-ltb c.args.mark mark_table (omega arith))

pub place_of-requires : goal.place_of-requires
place_of-requires c = few_marks c.args.self.now c.in_ok-check.ensures

pub returns-in-Some-clause-number : goal.returns-in-Some-clause-number
unfolding return_refusal is_set
returns-in-Some-clause-number c =
    let found = c.in-Some.ensures in
    rw (c.in_ok-check.ensures, lt-ltb c.args.mark mark_table (omega arith), sym found.0, tabulate_length, lt-ltb _ _ found.1)

pub returns-in-None-clause-number : goal.returns-in-None-clause-number
unfolding return_refusal is_set
returns-in-None-clause-number c =
    let count = c.args.self.now.marks.count in
    rw (c.in_ok-check.ensures, lt-ltb c.args.mark mark_table (omega arith), sym c.in-None.ensures, tabulate_length, le-ltb count count (omega arith))
