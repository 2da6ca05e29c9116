-- One atom is in range.
use mathlib.Core.Bool.{true}
use mathlib.Core.Path.{◌≡◌, refl}
use borrow.Author.Tests.{le-leb}
use native.Mathlib.Omega.{arith}
use Rattle.atoms.specs.Sets.{limit}
use Rattle.atoms.proofs.Machine.{limit_least}
use Rattle.ipl.specs.Book.{opened, open_refusal, count_in_range}
use Rattle.prover.proofs.Session.new.Goals as goal

one_in_range : count_in_range 1 ≡ true
unfolding count_in_range
one_in_range = rw (le-leb 1 limit (omega (arith, limit_least))) refl

pub returns : goal.returns
unfolding opened open_refusal
returns c = record { refused = rw one_in_range refl; holds = rw one_in_range c.empty.ensures.0; nothing = c.empty.ensures.1 }
