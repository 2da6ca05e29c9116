-- Three clauses, one after the other.
use native.Mathlib.Omega.{arith}
use Rattle.clausify.proofs.Written.{first_in, room_second, room_third, and_put}
use Rattle.clausify.proofs.flat_clauses.put_and.Goals as goal

pub put-requires : goal.put-requires
put-requires c = (omega (arith, c.requires.few), (first_in _ _ _ _ c.requires, tt), (c.requires.left_atom, tt))

pub put-requires-2 : goal.put-requires-2
put-requires-2 c = (room_second _ _ _ _ c.requires _ _ _ c.put.ensures, (first_in _ _ _ _ c.requires, tt), (c.requires.right_atom, tt))

pub put-requires-3 : goal.put-requires-3
put-requires-3 c = (room_third _ _ _ _ c.requires _ _ _ _ _ _ c.put.ensures c.put-2.ensures, (c.requires.left_atom, (c.requires.right_atom, tt)), (first_in _ _ _ _ c.requires, tt))

pub returns : goal.returns
returns c = and_put _ _ _ _ _ _ _ c.put.ensures c.put-2.ensures c.put-3.ensures
