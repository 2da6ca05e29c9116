-- With the place, and without.
use Rattle.text.specs.Text.{ascii, refusal}
use Rattle.text.proofs.Appending.{both}
use Rattle.text.proofs.draft.Draft.refusal.Goals as goal
use Rattle.text.proofs.draft.Draft.refusal.Goals.{in-Some, in_default}

pub returns : goal.returns
unfolding refusal ascii
returns c =
    let number = rw c.from.ensures at c.figure.ensures in
    elim c.match-place.branch [
      | in-Some w ↦ rw w.in-Some.is (both (both number (rw (← w.self-is) at w.figure-in-Some.ensures)) c.word.ensures)
      | in_default w ↦ rw w.in_default.is (both (rw (← w.self-is) at number) c.word.ensures)
    ]
