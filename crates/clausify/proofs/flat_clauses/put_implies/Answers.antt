-- One clause, or two.
use native.Mathlib.Omega.{arith}
use Rattle.clausify.proofs.Written.{first_in, room_second, from_bot_put, implies_put}
use Rattle.clausify.proofs.flat_clauses.put_implies.Goals as goal

pub put-requires : goal.put-requires
put-requires c = (omega (arith, c.requires.few), tt, (first_in _ _ _ _ c.requires, tt))

pub put-requires-else-y-eq-BOTTOM : goal.put-requires-else-y-eq-BOTTOM
put-requires-else-y-eq-BOTTOM c = (omega (arith, c.requires.few), (first_in _ _ _ _ c.requires, (c.requires.left_atom, tt)), (c.requires.right_atom, tt))

pub put-requires-else-y-eq-BOTTOM-2 : goal.put-requires-else-y-eq-BOTTOM-2
put-requires-else-y-eq-BOTTOM-2 c = (room_second _ _ _ _ c.requires _ _ _ c.put-else-y-eq-BOTTOM.ensures, (c.requires.right_atom, tt), (first_in _ _ _ _ c.requires, tt))

pub returns-then-y-eq-BOTTOM : goal.returns-then-y-eq-BOTTOM
returns-then-y-eq-BOTTOM c = from_bot_put _ _ _ _ _ c.if-y-eq-BOTTOM.true c.put.ensures

pub returns-else-y-eq-BOTTOM : goal.returns-else-y-eq-BOTTOM
returns-else-y-eq-BOTTOM c = implies_put _ _ _ _ _ _ c.if-y-eq-BOTTOM.false c.put-else-y-eq-BOTTOM.ensures c.put-else-y-eq-BOTTOM-2.ensures
