-- The measure is the room above what is known.
use Rattle.std.proofs.Common.{suc, ◌+◌, ◌-◌, ◌^◌}
use Rattle.atoms.specs.Sets.{limit}
use Rattle.atoms.specs.Words.{num}
use Rattle.sat.proofs.search.+least.Given as goal

abbrev pub decreases-least : goal.decreases-least
decreases-least l = 2 ^ suc limit - (num l.known.has + num l.known.lacks)
