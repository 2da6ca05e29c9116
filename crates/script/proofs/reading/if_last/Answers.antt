-- By whether a word follows.
use Rattle.script.proofs.Calling.{complete}
use Rattle.script.proofs.reading.if_last.Goals as goal

pub returns : goal.returns
returns c = complete _ _ c.is_last.ensures c.then_some.ensures
