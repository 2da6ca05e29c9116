-- By whether a word follows.
use Rattle.script.proofs.Calling.{last_is}
use Rattle.script.proofs.reading.is_last.Goals as goal

pub returns : goal.returns
returns c = last_is _ _ _ c.split_first.ensures c.is_none.ensures
