use mathlib.Core.Path.{ap, ◌∙◌}
use Prim.Native.Nat.{◌<◌}
use native.Mathlib.Omega.{arith}
use lib.ListN.{length, length-map}
use Rattle.syntax.specs.Nodes.{Entry}
use Rattle.syntax.specs.Letters.{letter_count}
use Rattle.syntax.specs.Parts.{entry_of}
use Rattle.syntax.proofs.Held.{sound, held_length}
use Rattle.syntax.proofs.LetterCount.{counted_byte, counted_more, counted_all}
use Rattle.syntax.proofs.Parts.letters.Goals as goal

pub overflow_add-letters : goal.overflow_add-letters
overflow_add-letters c =
    let rows = c.rows-part-items in
    let p = c.args.self.now in
    let few : length rows.result.now < 256 =
    omega (arith, length-map rows.result.now entry_of, ap (length {A = Entry}) rows.ensures, held_length p (sound p), p.bounded) in
    omega (arith, counted_byte _ _ _ c.loop-part.invariant _ c.loop-part-test.true _ c.letters_in-letters.ensures few)

pub loop-part-preserved : goal.loop-part-preserved
loop-part-preserved c = counted_more _ _ _ c.loop-part.invariant _ c.loop-part-test.true _ c.letters_in-letters.ensures

pub returns : goal.returns
returns c = counted_all _ _ _ c.loop-part.invariant c.loop-part-test.false ∙ ap letter_count c.rows-part-items.ensures
