-- Every assignment before the round gives the whole.
use Prim.Native.Nat.{◌*◌}
use Rattle.syntax.specs.Parts.{held}
use Rattle.fork.specs.Fork.{set_count}
use Rattle.fork.proofs.Rounds.{Passed}
use Rattle.fork.proofs.screening.screen_rounds.Given as goal

abbrev pub invariant-loop-round : goal.invariant-loop-round
invariant-loop-round l = Passed (held l.formula.parts.now) l.formula.root (l.round * set_count)
