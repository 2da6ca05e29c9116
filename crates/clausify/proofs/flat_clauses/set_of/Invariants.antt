-- The atoms passed are joined.
use mathlib.Core.Path.{◌≡◌}
use lib.ListN.{drop}
use Rattle.atoms.specs.Sets.{union}
use Rattle.atoms.specs.Words.{num}
use Rattle.clausify.specs.Naming.{set_of}
use Rattle.clausify.proofs.flat_clauses.set_of.Given as goal

abbrev pub invariant-loop-x : goal.invariant-loop-x
invariant-loop-x l = union (num l.set) (set_of (drop l.x-index l.atoms)) ≡ set_of l.atoms
