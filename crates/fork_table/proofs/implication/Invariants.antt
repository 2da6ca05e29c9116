-- No set above c passes the test.
use Rattle.std.proofs.Common.{◌≡◌, suc}
use Rattle.fork.specs.Algebra.{is_implication, number_with, implication}
use Rattle.fork_table.proofs.implication.Given as goal

abbrev pub invariant-loop-c : goal.invariant-loop-c
invariant-loop-c l = number_with (is_implication l.a l.b) (suc l.c) ≡ implication l.a l.b
