-- The number of the digits passed.
use Rattle.script.proofs.Values.{Passed}
use Rattle.script.proofs.numbers.number_in.Given as goal

abbrev pub invariant-loop-b : goal.invariant-loop-b
invariant-loop-b g l = Passed g.N.Number.bound l.word l.b-index (g.N.Number.value l.number)
