use mathlib.Core.Path.{◌≡◌, refl}
use Prim.Native.Nat.{◌<◌}
use lib.ListN.{length}
use Rattle.syntax.specs.Parts.{room}
use Rattle.clausify.proofs.Loops.{implications_none, parts_in, implications_room, implications_more, implications_all}
use borrow.Author.Rules.{rules}
use native.Mathlib.Omega.{arith}
use Rattle.clausify.proofs.implication_clauses.implications_of.Goals as goal

pub loop-i-init : goal.loop-i-init
loop-i-init c = implications_none _ _ refl

pub put_entry-requires : goal.put_entry-requires
put_entry-requires c =
    let size : length c.args.names.now.atoms ≡ room = search rules in
    let inside : c.loop-i.i < c.args.parts.now.count = omega arith in
    (implications_room _ _ c.requires _ inside _ c.loop-i.invariant, parts_in _ _ c.requires size _ _ inside)

pub loop-i-preserved : goal.loop-i-preserved
loop-i-preserved c =
    let size : length c.args.names.now.atoms ≡ room = search rules in
    let inside : c.loop-i.i < c.args.parts.now.count = omega arith in
    implications_more _ _ c.requires size _ _ inside _ c.loop-i.invariant _ c.put_entry.ensures

pub returns : goal.returns
returns c = implications_all _ _ c.requires c.loop-i.i (omega arith) _ c.loop-i.invariant
