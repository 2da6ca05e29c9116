-- No clause missed may say something.
use Rattle.std.proofs.Common.{◌≡◌, false, rules}
use Rattle.atoms.specs.Words.{num}
use Rattle.sat.specs.Knowledge.{may_tell}
use Rattle.sat.proofs.Table.{passed_each}
use Rattle.sat.proofs.propagation.next_telling.Goals as goal

pub returns : goal.returns
returns c = passed_each _ _ (λ i w.
    let k = w.0 in
    let e : may_tell (num k.left) (num k.right) c.args.p ≡ false = search rules in
    rw (← w.1.left_is, ← w.1.right_is) e) _ _ c.first.ensures
