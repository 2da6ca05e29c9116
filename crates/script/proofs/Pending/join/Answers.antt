-- The bytes kept, and whether all of them are spaces.
use Rattle.std.proofs.Common.{◌∙◌, rules}
use Rattle.script.proofs.Gathering.{joined}
use Rattle.script.proofs.Pending.join.Goals as goal
use Rattle.script.proofs.Pending.join.Goals.{then-self, else-self}

pub returns : goal.returns
returns c =
    let kept = c.resume-kept.ensures in
    joined kept.same kept.resumed c.word.ensures (search rules) c.len-self.ensures (elim c.if-self.branch [
      | then-self w ↦ w.self-is ∙ rw w.if-self.true w.is_blank-self.ensures
      | else-self w ↦ w.self-is ∙ rw w.if-self.false
    ])
