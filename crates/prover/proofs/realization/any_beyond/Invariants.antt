-- The worlds passed, from the last one on, count nothing: none of them is beyond m.
use mathlib.Core.Path.{◌≡◌}
use Rattle.atoms.specs.Words.{num, row_of}
use Rattle.ipl.specs.Lists.{any, tabulate}
use Rattle.ipl.specs.Clause.{beyond}
use Rattle.prover.specs.State.{worlds_of}
use Rattle.prover.specs.State.{implication_of}
use Rattle.prover.proofs.realization.any_beyond.Given as goal

abbrev pub invariant-loop-k : goal.invariant-loop-k
invariant-loop-k l =
    let test = beyond (implication_of l.i) (num l.m) in
    any test (worlds_of l.worlds) ≡ any test (tabulate (row_of l.worlds.sets) l.k)
