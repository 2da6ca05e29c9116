-- What a clause adds: each answer that learns something cites a law of Clause.
use Rattle.std.proofs.Common.{◌≡◌, ℕ, false, sym, ◌∙◌, subst, eqb-true}
use Rattle.atoms.specs.Sets.{meets}
use Rattle.atoms.specs.Words.{num}
use Rattle.sat.proofs.Knowledge.{same_set}
use Rattle.sat.proofs.Clause.{conflict, open_left, open_right, learn_has, learn_lacks}
use Rattle.sat.proofs.propagation.unit.Goals as goal

pub returns-then-is_empty-2 : goal.returns-then-is_empty-2
returns-then-is_empty-2 c =
    conflict _ _ _ _ _ _ c.open-open.ensures.left c.open-open.ensures.right
    (eqb-true _ _ (sym c.is_empty.ensures ∙ c.if-is_empty.true))
    (eqb-true _ _ (sym c.is_empty-then-is_empty.ensures ∙ c.if-is_empty-2.true))

pub having-requires : goal.having-requires
having-requires c =
    subst (λ (z : ℕ). meets (num c.args.p.lacks) z ≡ false) (sym (same_set _ _ _ c.eq.ensures c.if-eq.true))
    (open_right _ _ _ _ _ _ c.open-open.ensures.left c.open-open.ensures.right)

pub lacking-requires : goal.lacking-requires
lacking-requires c =
    subst (λ (z : ℕ). meets (num c.args.p.has) z ≡ false) (sym (same_set _ _ _ c.eq-then-is_empty-3.ensures c.if-eq-2.true))
    (open_left _ _ _ _ _ _ c.open-open.ensures.left c.open-open.ensures.right)

pub returns-then-eq : goal.returns-then-eq
returns-then-eq c =
    learn_has _ _ _ _ _ _ c.open-open.ensures.left c.open-open.ensures.right _ _
    (eqb-true _ _ (sym c.is_empty.ensures ∙ c.if-is_empty.true))
    (sym c.is_empty-then-is_empty.ensures ∙ c.if-is_empty-2.false)
    c.highest-x.ensures (same_set _ _ _ c.eq.ensures c.if-eq.true) c.having.ensures

pub returns-then-eq-2 : goal.returns-then-eq-2
returns-then-eq-2 c =
    learn_lacks _ _ _ _ _ _ c.open-open.ensures.left c.open-open.ensures.right _ _
    (eqb-true _ _ (sym c.is_empty-else-is_empty.ensures ∙ c.if-is_empty-3.true))
    (sym c.is_empty.ensures ∙ c.if-is_empty.false)
    c.highest-x-then-is_empty-3.ensures (same_set _ _ _ c.eq-then-is_empty-3.ensures c.if-eq-2.true) c.lacking.ensures
