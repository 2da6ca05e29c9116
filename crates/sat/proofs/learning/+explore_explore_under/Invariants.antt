-- The measure is the depth.
use Rattle.std.proofs.Common.{◌+◌, ◌*◌}
use Rattle.sat.proofs.learning.+explore_explore_under.Given as goal

abbrev pub decreases-explore : goal.decreases-explore
decreases-explore l = 2 * l.depth

abbrev pub decreases-explore_under : goal.decreases-explore_under
decreases-explore_under l = 2 * l.depth + 1
