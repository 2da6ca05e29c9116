-- What is left of the search stays what the whole comes to.
use Rattle.ipl.specs.Search as S
use Rattle.prover.specs.State.{implications_of, steps_of}
use Rattle.prover.specs.Search.{flats_in, turns_left, Underway}
use Rattle.prover.proofs.question.Search.proceed.Given as goal

abbrev pub invariant-loop-end : goal.invariant-loop-end
invariant-loop-end l =
    let F = flats_in l.fn.self in
    Underway l.n l.goal l.x F (S.search l.n F (implications_of l.x) l.goal (steps_of l.fn.self.steps)) l.self

abbrev pub decreases-loop-end : goal.decreases-loop-end
decreases-loop-end l = turns_left l.self
