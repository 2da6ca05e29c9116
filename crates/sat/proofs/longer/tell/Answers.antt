-- A model at hand is enough where the smallest is not wanted; else the search tells.
use Rattle.sat.proofs.Descent.{model_told, settles_told}
use Rattle.sat.proofs.longer.tell.Goals as goal

pub returns-then-is_model : goal.returns-then-is_model
returns-then-is_model c = model_told _ c.args.base c.args.smallest c.if-not-smallest.true _ (c.is_model.ensures c.if-is_model.true)

pub returns : goal.returns
returns c = settles_told _ c.args.base _ c.settle.result c.settle.ensures
