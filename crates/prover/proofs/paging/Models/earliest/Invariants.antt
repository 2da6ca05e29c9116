-- Every model before `i` has the goal.
use mathlib.Core.Option.{none}
use mathlib.Core.Path.{◌≡◌}
use Rattle.ipl.specs.Lists.{tabulate}
use Rattle.ipl.specs.Page.{earliest}
use Rattle.prover.specs.Page.{model_row}
use Rattle.prover.proofs.paging.Models.earliest.Given as goal

abbrev pub invariant-loop-i : goal.invariant-loop-i
invariant-loop-i l = earliest l.goal (tabulate (model_row l.self) l.i) ≡ none
