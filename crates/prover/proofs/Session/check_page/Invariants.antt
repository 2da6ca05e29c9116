-- The goals so far are in range.
use mathlib.Core.Bool.{true}
use mathlib.Core.Path.{◌≡◌}
use lib.ListN.{take}
use Rattle.ipl.specs.Lists.{all}
use Rattle.ipl.specs.Range.{atom_or_bot}
use Rattle.prover.specs.Page.{goals_of}
use Rattle.prover.proofs.Session.check_page.Given as goal

abbrev pub invariant-loop-rec : goal.invariant-loop-rec
invariant-loop-rec l = all (atom_or_bot l.self.n) (take l.rec-index (goals_of l.records)) ≡ true
