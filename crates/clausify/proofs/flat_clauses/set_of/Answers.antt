use Rattle.clausify.proofs.Written.{joined_none, joined_more, joined_all}
use Rattle.atoms.proofs.Machine.{num_empty}
use native.Mathlib.Omega.{arith}
use Rattle.clausify.proofs.flat_clauses.set_of.Goals as goal

pub loop-x-init : goal.loop-x-init
loop-x-init c = joined_none c.args.atoms.now c.requires _ num_empty

pub loop-x-preserved : goal.loop-x-preserved
loop-x-preserved c = joined_more c.args.atoms.now c.requires c.loop-x.x-index (omega arith) _ _ _ c.loop-x.invariant c.single.ensures c.join-set.ensures

pub returns : goal.returns
returns c = joined_all c.args.atoms.now c.requires c.loop-x.x-index (omega arith) _ c.loop-x.invariant
