-- The digits of the bytes before b are appended.
use Rattle.std.proofs.Common.{take}
use Rattle.text.specs.Text.{hex}
use Rattle.text.specs.Output.{Appends}
use Rattle.text.proofs.draft.Draft.hex.Given as goal

abbrev pub invariant-loop-b : goal.invariant-loop-b
invariant-loop-b l = Appends (hex (take l.b-index l.bytes)) l.initial.self l.self
