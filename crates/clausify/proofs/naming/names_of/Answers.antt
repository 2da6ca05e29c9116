use Rattle.clausify.proofs.Loops.{given_none, given_small, given_more, given_all}
use borrow.Author.Rules.{rules}
use native.Mathlib.Omega.{arith}
use Rattle.clausify.proofs.naming.names_of.Goals as goal

pub loop-i-init : goal.loop-i-init
loop-i-init c = given_none _ c.requires.0 _ _ (search rules) c.requires.1

pub pass-requires : goal.pass-requires
pass-requires c = given_small _ c.requires.0 _ _ _ c.loop-i.invariant

pub loop-i-preserved : goal.loop-i-preserved
loop-i-preserved c = given_more _ c.requires.0 _ _ _ c.loop-i.invariant _ _ _ (omega arith) c.pass.ensures

pub returns : goal.returns
returns c = given_all _ c.requires.0 _ _ _ c.loop-i.invariant (omega arith)
