use Rattle.script.proofs.Goals.{author_read, one_collected}
use Rattle.script.proofs.reading.read_goals.Goals as goal

pub loop-goal-preserved : goal.loop-goal-preserved
loop-goal-preserved c = one_collected c.loop-goal.invariant c.in-Some.ensures _ c.push.ensures

pub returns : goal.returns
returns c = author_read c.loop-goal.invariant c.in_default.ensures c.author.ensures c.in_ok-author.was
