-- The sets of the letters before i.
use mathlib.Core.Path.{◌≡◌}
use lib.ListN.{length, take}
use Rattle.fork.specs.Screen.{assignment, most_letters}
use Rattle.fork.proofs.assignments.sets_of.Given as goal

abbrev pub invariant-loop-i : goal.invariant-loop-i
invariant-loop-i l = (length l.sets ≡ most_letters) × (take l.i l.sets ≡ take l.i (assignment l.letters l.number))
