-- The text is refused, it has too many letters, or its formula is screened.
use Rattle.std.proofs.lemmas.Result.{err_from_is_err_and}
use Rattle.fork.proofs.Texts.{judged_refused, part_tabled, part_inside, answer_many, answer_few}
use Rattle.fork.proofs.screening.screen.Goals as goal

pub returns-in_err-reading : goal.returns-in_err-reading
returns-in_err-reading c =
    let p = err_from_is_err_and c.from_residual.result c.from_residual.ensures.1 in
    rw (p.1, p.2) (judged_refused _ _ c.in_err-reading.ensures)

pub returns-then-reading-gt-MOST_LETTERS : goal.returns-then-reading-gt-MOST_LETTERS
returns-then-reading-gt-MOST_LETTERS c =
    let read = c.in_ok-reading.ensures in
    answer_many _ _ _ read.0 _ read.1 c.if-reading-gt-MOST_LETTERS.true

pub invariant_of-screen_rounds : goal.invariant_of-screen_rounds
invariant_of-screen_rounds c =
    let read = c.in_ok-reading.ensures in
    record { tabled = part_tabled _ _ _ read.0 _ read.1 c.if-reading-gt-MOST_LETTERS.false; inside = part_inside _ _ _ read.0 _ read.1 }

pub returns : goal.returns
returns c =
    let read = c.in_ok-reading.ensures in
    answer_few _ _ _ read.0 _ read.1 c.if-reading-gt-MOST_LETTERS.false _ c.screen_rounds.ensures
