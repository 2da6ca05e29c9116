-- What the code joins is not empty exactly where the clause is true.
use Rattle.std.proofs.Common.{ℕ, not, eqb, ap, ◌∙◌, ap₂}
use Rattle.atoms.specs.Sets.{union}
use Rattle.sat.proofs.Table.{satisfies_tested}
use Rattle.sat.proofs.clauses.Clause.holds.Goals as goal

pub returns : goal.returns
returns c =
    ap not (c.is_empty.ensures ∙ ap (λ (z : ℕ). eqb z 0) (c.join.ensures ∙ ap₂ union c.without.ensures c.common.ensures))
    ∙ satisfies_tested _ _ _
