-- The tokens from `i` on are those from `at` on, until the first byte that is no space.
use mathlib.Core.Path.{◌≡◌}
use Rattle.syntax.specs.Descent.{rest}
use Rattle.syntax.proofs.bytes.past_spaces.Given as goal

abbrev pub invariant-loop-i : goal.invariant-loop-i
invariant-loop-i l = rest l.s l.i ≡ rest l.s l.at
