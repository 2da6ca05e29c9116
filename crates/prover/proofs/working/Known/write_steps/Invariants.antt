-- The clauses of the steps passed are written.
use Rattle.prover.specs.Working.{StepsWritten}
use Rattle.prover.proofs.working.Known.write_steps.Given as goal

abbrev pub invariant-loop-k : goal.invariant-loop-k
invariant-loop-k l = StepsWritten l.initial.self.left l.initial.self.right l.flats l.steps l.x l.k l.self.left l.self.right
