-- The digit by the table of ASCII.
use Rattle.std.proofs.Common.{arith, refl}
use borrow.Author.Tests.{lt-ltb, le-ltb}
use Rattle.text.specs.Text.{hex_digit}
use Rattle.text.proofs.draft.hex_digit.Goals as goal

pub returns-in-0-to-9 : goal.returns-in-0-to-9
unfolding hex_digit
returns-in-0-to-9 c = rw (lt-ltb c.args.d 10 (omega arith)) refl

pub returns-in_default : goal.returns-in_default
unfolding hex_digit
returns-in_default c = rw (le-ltb c.args.d 10 (omega arith)) (omega arith)
