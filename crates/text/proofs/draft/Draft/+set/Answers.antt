use Rattle.std.proofs.Common.{sym}
use Rattle.text.proofs.Decimal.{digit_alone, digit_after}
use Rattle.text.proofs.draft.Draft.+set.Goals as goal
use Rattle.text.proofs.draft.Draft.+set.Goals.{then-not-is_empty, else-not-is_empty}

pub returns : goal.returns
returns t c =
    let e = c.tenth-tenth.ensures in
    let last = c.word.ensures in
    elim c.if-not-is_empty.branch [
      | then-not-is_empty w ↦ digit_after _ _ _ e.0 e.1 (sym w.if-not-is_empty.ensures) (rw (← w.self-is) at w.set.ensures) last
      | else-not-is_empty w ↦ digit_alone _ _ _ e.0 e.1 (sym w.if-not-is_empty.ensures) (rw w.self-is at last)
    ]
