-- The longer table says what the table says, and so do the rows kept of it.
use Rattle.sat.proofs.Descent.{told_same, settles_told}
use Rattle.sat.proofs.Rows.{longer_to, longer_from, seen}
use Rattle.sat.proofs.longer.settle_in.Goals as goal

pub returns-then-not-fill : goal.returns-then-not-fill
returns-then-not-fill c f = (settles_told _ c.args.base _ c.settle-answer.result c.settle-answer.ensures, f)

pub returns : goal.returns
returns c f =
    let w = c.fill.ensures c.if-not-fill.false in
    let to = longer_to c.args.t c.args.kept.now c.args.rows c.fill.new.long c.learn-m.new.t w c.learn-m.ensures f in
    let from = longer_from c.args.t c.args.kept.now c.args.rows c.fill.new.long c.learn-m.new.t w c.learn-m.ensures in
    let see = seen c.learn-m.new.t c.clauses.result c.clauses.ensures.left c.clauses.ensures.right c.clauses.ensures.count in (
      told_same _ _ (λ m h. from m ((see m).0 h)) (λ m h. (see m).1 (to m h)) c.args.base _ c.tell-answer.result c.tell-answer.ensures,
      λ m h. c.keep-more.ensures m (to m h),
    )
