-- The shifted word's lowest bit for an atom, and nothing past the atoms.
use mathlib.Core.Path.{refl, sym, ◌∙◌}
use native.Mathlib.Omega.{arith}
use borrow.Author.Tests.{le-ltb}
use Rattle.atoms.specs.Sets.{bit_at, has}
use Rattle.atoms.specs.Words.{num}
use Rattle.atoms.proofs.Members.{has_past}
use Rattle.atoms.proofs.AtomSet.has.Goals as goal

pub returns-then-i-lt-LIMIT : goal.returns-then-i-lt-LIMIT
unfolding num has bit_at
returns-then-i-lt-LIMIT c = refl

pub returns-else-i-lt-LIMIT : goal.returns-else-i-lt-LIMIT
unfolding num
returns-else-i-lt-LIMIT c =
    le-ltb c.args.i 64 c.if-i-lt-LIMIT.false ∙ sym (has_past 64 c.args.self.bits c.args.i (omega arith) c.if-i-lt-LIMIT.false)
