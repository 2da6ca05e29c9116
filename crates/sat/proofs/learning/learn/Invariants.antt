-- Each start makes a table that says no more than the one before.
use Rattle.sat.specs.Learning.{Learned}
use Rattle.sat.proofs.learning.learn.Given as goal

abbrev pub invariant-loop : goal.invariant-loop
invariant-loop l = Learned l.initial.t l.t
