-- Goal after goal.
use Rattle.std.proofs.Common.{length}
use Rattle.script.specs.Words.{words_of}
use Rattle.script.proofs.Goals.{Collected}
use Rattle.script.proofs.reading.read_goals.Given as goal

abbrev pub invariant-loop-goal : goal.invariant-loop-goal
invariant-loop-goal l = Collected l.line l.rest l.goals

abbrev pub decreases-loop-goal : goal.decreases-loop-goal
decreases-loop-goal l = length (words_of l.rest)
