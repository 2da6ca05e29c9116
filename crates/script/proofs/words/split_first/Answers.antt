-- A word ends at the next space.
use Rattle.std.proofs.Common.{sym, ◌∙◌, arith}
use Rattle.script.proofs.Splitting.{first_split, none_split}
use Rattle.script.proofs.words.split_first.Goals as goal

pub returns-then-end-eq0 : goal.returns-then-end-eq0
returns-then-end-eq0 c = none_split _ _ c.unindented-rest.ensures (sym c.find-end.ensures.first ∙ c.if-end-eq0.true)

pub returns : goal.returns
returns c =
    let cut = c.split_at.ensures in
    rw cut.back (first_split _ _ _ _ c.unindented-rest.ensures c.find-end.ensures.first (omega arith) cut.front)
