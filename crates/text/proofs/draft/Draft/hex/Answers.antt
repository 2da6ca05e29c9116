use Rattle.std.proofs.Common.{refl}
use Rattle.text.specs.Text.{hex}
use Rattle.text.proofs.Appending.{nothing}
use Rattle.text.proofs.Hexadecimal.{next_hex}
use Rattle.text.proofs.draft.Draft.hex.Goals as goal

pub loop-b-init : goal.loop-b-init
unfolding hex
loop-b-init c = nothing _

pub loop-b-preserved : goal.loop-b-preserved
loop-b-preserved c =
    next_hex _ _ _ _ _ c.loop-b-test.true refl c.hex_digit.ensures c.hex_digit-in-loop-b.ensures c.loop-b.invariant c.word.ensures
