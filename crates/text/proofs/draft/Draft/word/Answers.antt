-- As many of the bytes as there is room for.
use Rattle.std.proofs.Common.{refl}
use Rattle.text.proofs.Appending.{same_size, begins_more}
use Rattle.text.proofs.draft.Draft.word.Goals as goal

pub returns : goal.returns
returns c =
    let few = c.min-n.ensures in
    let copied = c.copy_from_slice.ensures in
    record { same_reference = refl; size = same_size _ _ _ _ few _ copied.after copied.len; follows = begins_more _ _ _ _ few _ copied.after copied.len }
