-- Each clause missed is true at m.
use Rattle.std.proofs.Common.{◌≡◌, true, rules}
use Rattle.atoms.specs.Words.{num}
use Rattle.atoms.proofs.Truth.{true_T}
use Rattle.ipl.specs.Clause.{satisfies}
use Rattle.sat.proofs.Table.{passed_each, satisfies_holds}
use Rattle.sat.proofs.propagation.next_failing.Goals as goal

pub returns : goal.returns
returns c = passed_each _ _ (λ i w.
    let k = w.0 in
    let e : satisfies (num c.args.m) (record { left = num k.left; right = num k.right }) ≡ true = search rules in
    rw (← w.1.left_is, ← w.1.right_is) (satisfies_holds _ _ _ (true_T e))) _ _ c.first.ensures
