-- What is left to drop gives the same, and the rows kept follow from the table.
use mathlib.Core.Path.{◌≡◌}
use Prim.Native.Nat.{◌-◌}
use Rattle.atoms.specs.Words.{num}
use Rattle.ipl.specs.Search.{drop_from}
use Rattle.sat.specs.Table.{clauses}
use Rattle.prover.specs.Working.{proves, Follows}
use Rattle.prover.proofs.working.Known.drop_atoms.Given as goal

abbrev pub invariant-loop-k : goal.invariant-loop-k
invariant-loop-k l =
    let proven = proves l.n (clauses l.self.left l.self.right l.count) l.asked in
    (drop_from proven l.n 0 (num l.initial.rest) ≡ drop_from proven (l.n - l.k) l.k (num l.rest)) × Follows l.self l.count l.kept
