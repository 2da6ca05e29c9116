use Prim.Native.Nat.{◌+◌}
use native.Mathlib.Omega.{arith}
use mathlib.Core.Path.{ap}
use Rattle.syntax.specs.Code.{decode}
use Rattle.syntax.specs.declared.bytes.Class.TheVariants as class
use Rattle.syntax.proofs.Class.{same_class}
use Rattle.syntax.proofs.Grouped.{conjunctions, disjunctions, asks_one, one_exceeds, one_reached, asks_more, more_exceeds, more_full, more_reached, reached_end}
use Rattle.syntax.proofs.Grouped.{implications, equivalences, asks_left, left_large, left_only, asks_right, deep_right, right_large, joined_full, joined}
use Rattle.syntax.proofs.Operand.{asks_not, deep_not, not_large, not_full, not_gives, asks_inner, inner_large, inner_gives, letter_leaf, falsum_leaf, leaf_gives, begun}
use Rattle.syntax.proofs.descent.+conjunction_disjunction_equivalence_implication_negation.Goals as goal

pub conjunction-negation-requires : goal.conjunction-negation-requires
conjunction-negation-requires t c = (omega (arith, c.decreases), asks_one _ _ _ _ conjunctions c.requires)

pub conjunction-returns-in_err-whole : goal.conjunction-returns-in_err-whole
conjunction-returns-in_err-whole t c = rw c.from_residual.ensures (one_exceeds _ _ _ _ conjunctions c.requires c.in_err-whole.ensures)

pub conjunction-loop-next-init : goal.conjunction-loop-next-init
conjunction-loop-next-init t c = one_reached _ _ _ _ conjunctions c.requires _ _ c.in_ok-whole.ensures

pub conjunction-negation-requires-in-Some : goal.conjunction-negation-requires-in-Some
conjunction-negation-requires-in-Some t c =
    let was = c.loop-next.invariant in
    let comes = c.in-Some.ensures in
    (omega (arith, was.forward, comes.1, comes.2, c.decreases), asks_more _ _ _ _ conjunctions c.requires _ _ was _ comes)

pub conjunction-returns-in_err-right : goal.conjunction-returns-in_err-right
conjunction-returns-in_err-right t c =
    rw c.from_residual-in_err-right.ensures (more_exceeds _ _ _ _ conjunctions c.requires _ _ c.loop-next.invariant _ c.in-Some.ensures c.in_err-right.ensures)

pub conjunction-returns-in_err-compound : goal.conjunction-returns-in_err-compound
conjunction-returns-in_err-compound t c =
    rw c.from_residual-in_err-compound.ensures
    (more_full _ _ _ _ conjunctions c.requires _ _ c.loop-next.invariant _ c.in-Some.ensures _ _ c.in_ok-right.ensures c.compound.new.self c.in_err-compound.ensures)

pub conjunction-loop-next-preserved : goal.conjunction-loop-next-preserved
conjunction-loop-next-preserved t c =
    more_reached _ _ _ _ conjunctions c.requires _ _ c.loop-next.invariant _ c.in-Some.ensures _ _ c.in_ok-right.ensures _ _ c.in_ok-compound.ensures

pub conjunction-returns : goal.conjunction-returns
conjunction-returns t c = reached_end _ _ _ _ conjunctions c.requires _ _ c.loop-next.invariant c.in_default.ensures

pub disjunction-conjunction-requires : goal.disjunction-conjunction-requires
disjunction-conjunction-requires t c = (omega (arith, c.decreases), asks_one _ _ _ _ disjunctions c.requires)

pub disjunction-returns-in_err-whole : goal.disjunction-returns-in_err-whole
disjunction-returns-in_err-whole t c = rw c.from_residual.ensures (one_exceeds _ _ _ _ disjunctions c.requires c.in_err-whole.ensures)

pub disjunction-loop-next-init : goal.disjunction-loop-next-init
disjunction-loop-next-init t c = one_reached _ _ _ _ disjunctions c.requires _ _ c.in_ok-whole.ensures

pub disjunction-conjunction-requires-in-Some : goal.disjunction-conjunction-requires-in-Some
disjunction-conjunction-requires-in-Some t c =
    let was = c.loop-next.invariant in
    let comes = c.in-Some.ensures in
    (omega (arith, was.forward, comes.1, comes.2, c.decreases), asks_more _ _ _ _ disjunctions c.requires _ _ was _ comes)

pub disjunction-returns-in_err-right : goal.disjunction-returns-in_err-right
disjunction-returns-in_err-right t c =
    rw c.from_residual-in_err-right.ensures (more_exceeds _ _ _ _ disjunctions c.requires _ _ c.loop-next.invariant _ c.in-Some.ensures c.in_err-right.ensures)

pub disjunction-returns-in_err-compound : goal.disjunction-returns-in_err-compound
disjunction-returns-in_err-compound t c =
    rw c.from_residual-in_err-compound.ensures
    (more_full _ _ _ _ disjunctions c.requires _ _ c.loop-next.invariant _ c.in-Some.ensures _ _ c.in_ok-right.ensures c.compound.new.self c.in_err-compound.ensures)

pub disjunction-loop-next-preserved : goal.disjunction-loop-next-preserved
disjunction-loop-next-preserved t c =
    more_reached _ _ _ _ disjunctions c.requires _ _ c.loop-next.invariant _ c.in-Some.ensures _ _ c.in_ok-right.ensures _ _ c.in_ok-compound.ensures

pub disjunction-returns : goal.disjunction-returns
disjunction-returns t c = reached_end _ _ _ _ disjunctions c.requires _ _ c.loop-next.invariant c.in_default.ensures

pub equivalence-implication-requires : goal.equivalence-implication-requires
equivalence-implication-requires t c = (omega (arith, c.decreases), asks_left _ _ _ _ equivalences c.requires)

pub equivalence-returns-in_err-left : goal.equivalence-returns-in_err-left
equivalence-returns-in_err-left t c = rw c.from_residual.ensures (left_large _ _ _ _ equivalences c.requires c.in_err-left.ensures)

pub equivalence-returns-in_default : goal.equivalence-returns-in_default
equivalence-returns-in_default t c = left_only _ _ _ _ equivalences c.requires _ _ c.in_ok-left.ensures c.in_default.ensures

pub equivalence-implication-requires-2 : goal.equivalence-implication-requires-2
equivalence-implication-requires-2 t c =
    let was = c.in_ok-left.ensures in
    let comes = c.in-Some.ensures in
    (omega (arith, was.0, comes.1, comes.2, c.decreases), asks_right _ _ _ _ equivalences c.requires _ _ was _ comes _ c.requires.near)

pub equivalence-returns-in_err-right : goal.equivalence-returns-in_err-right
equivalence-returns-in_err-right t c =
    rw c.from_residual-in_err-right.ensures (right_large _ _ _ _ equivalences c.requires _ _ c.in_ok-left.ensures _ c.in-Some.ensures _ (omega arith) c.in_err-right.ensures)

pub equivalence-returns-in_err-equivalence : goal.equivalence-returns-in_err-equivalence
equivalence-returns-in_err-equivalence t c =
    rw c.from_residual-in_err-equivalence.ensures
    (joined_full _ _ _ _ equivalences c.requires _ _ c.in_ok-left.ensures _ c.in-Some.ensures c.args.depth _ _ c.in_ok-right.ensures c.equivalence.new.self c.in_err-equivalence.ensures)

pub equivalence-returns : goal.equivalence-returns
equivalence-returns t c = joined _ _ _ _ equivalences c.requires _ _ c.in_ok-left.ensures _ c.in-Some.ensures c.args.depth _ _ c.in_ok-right.ensures _ _ c.in_ok-equivalence.ensures

pub implication-disjunction-requires : goal.implication-disjunction-requires
implication-disjunction-requires t c = (omega (arith, c.decreases), asks_left _ _ _ _ implications c.requires)

pub implication-returns-in_err-left : goal.implication-returns-in_err-left
implication-returns-in_err-left t c = rw c.from_residual.ensures (left_large _ _ _ _ implications c.requires c.in_err-left.ensures)

pub implication-returns-in_default : goal.implication-returns-in_default
implication-returns-in_default t c = left_only _ _ _ _ implications c.requires _ _ c.in_ok-left.ensures c.in_default.ensures

pub implication-returns-then-depth-eq-MOST_NAMES : goal.implication-returns-then-depth-eq-MOST_NAMES
implication-returns-then-depth-eq-MOST_NAMES t c = deep_right _ _ _ _ implications c.requires _ _ c.in_ok-left.ensures _ c.in-Some.ensures c.if-depth-eq-MOST_NAMES.true

pub implication-implication-requires : goal.implication-implication-requires
implication-implication-requires t c =
    let was = c.in_ok-left.ensures in
    let comes = c.in-Some.ensures in
    (omega (arith, was.0, comes.1, comes.2, c.decreases), asks_right _ _ _ _ implications c.requires _ _ was _ comes _ (omega (arith, c.requires.near, c.if-depth-eq-MOST_NAMES.false)))

pub implication-returns-in_err-right : goal.implication-returns-in_err-right
implication-returns-in_err-right t c =
    rw c.from_residual-in_err-right.ensures (right_large _ _ _ _ implications c.requires _ _ c.in_ok-left.ensures _ c.in-Some.ensures _ (omega arith) c.in_err-right.ensures)

pub implication-returns-in_err-compound : goal.implication-returns-in_err-compound
implication-returns-in_err-compound t c =
    rw c.from_residual-in_err-compound.ensures
    (joined_full _ _ _ _ implications c.requires _ _ c.in_ok-left.ensures _ c.in-Some.ensures (c.args.depth + 1) _ _ c.in_ok-right.ensures c.compound.new.self c.in_err-compound.ensures)

pub implication-returns : goal.implication-returns
implication-returns t c = joined _ _ _ _ implications c.requires _ _ c.in_ok-left.ensures _ c.in-Some.ensures (c.args.depth + 1) _ _ c.in_ok-right.ensures _ _ c.in_ok-compound.ensures

pub negation-returns-then-depth-eq-MOST_NAMES : goal.negation-returns-then-depth-eq-MOST_NAMES
negation-returns-then-depth-eq-MOST_NAMES t c = deep_not _ _ _ _ _ c.next_token-t.ensures c.requires (ap decode c.in-Not.is) c.if-depth-eq-MOST_NAMES.true

pub negation-negation-requires : goal.negation-negation-requires
negation-negation-requires t c =
    let k = c.next_token-t.ensures in
    let not = ap decode c.in-Not.is in (
      omega (arith, k.forward (λ e. cc), k.inside, c.decreases),
      asks_not _ _ _ _ _ k c.requires not (omega (arith, c.requires.near, c.if-depth-eq-MOST_NAMES.false)),
    )

pub negation-returns-in_err-operand-in-Not : goal.negation-returns-in_err-operand-in-Not
negation-returns-in_err-operand-in-Not t c =
    rw c.from_residual.ensures (not_large _ _ _ _ _ c.next_token-t.ensures c.requires (ap decode c.in-Not.is) c.in_err-operand-in-Not.ensures)

pub negation-returns-in_err-negation-in-Not : goal.negation-returns-in_err-negation-in-Not
negation-returns-in_err-negation-in-Not t c =
    rw c.from_residual-in_err-negation-in-Not.ensures
    (not_full _ _ _ _ _ c.next_token-t.ensures c.requires (ap decode c.in-Not.is) _ _ c.in_ok-operand-in-Not.ensures c.negation-in-Not.new.self c.in_err-negation-in-Not.ensures)

pub negation-returns-in_ok-negation-in-Not : goal.negation-returns-in_ok-negation-in-Not
negation-returns-in_ok-negation-in-Not t c =
    not_gives _ _ _ _ _ c.next_token-t.ensures c.requires (ap decode c.in-Not.is) _ _ c.in_ok-operand-in-Not.ensures _ _ c.in_ok-negation-in-Not.ensures

pub negation-equivalence-requires : goal.negation-equivalence-requires
negation-equivalence-requires t c =
    let k = c.next_token-t.ensures in
    let opens = ap decode c.in-Opening.is in
    (omega (arith, k.forward (λ e. cc), k.inside, c.decreases), asks_inner _ _ _ _ _ k opens c.requires)

pub negation-returns-in_err-inner-in-Opening : goal.negation-returns-in_err-inner-in-Opening
negation-returns-in_err-inner-in-Opening t c =
    rw c.from_residual-in_err-inner-in-Opening.ensures (inner_large _ _ c.args.parts.now _ _ c.next_token-t.ensures (ap decode c.in-Opening.is) c.in_err-inner-in-Opening.ensures)

pub negation-returns-in_ok-inner-in-Opening : goal.negation-returns-in_ok-inner-in-Opening
negation-returns-in_ok-inner-in-Opening t c =
    inner_gives _ _ c.args.parts.now c.args.depth _ c.next_token-t.ensures (ap decode c.in-Opening.is) _ _ c.in_ok-inner-in-Opening.ensures _ c.next_token-close.ensures _ c.past_spaces.ensures

pub negation-returns-in-Letter : goal.negation-returns-in-Letter
negation-returns-in-Letter t c =
    let k = c.next_token-t.ensures in
    let p = c.args.parts.now in
    leaf_gives _ _ p c.args.depth _ k _ (letter_leaf _ _ p c.args.depth _ k _ (ap decode c.in-Letter.is)) (begun _ _ p c.args.depth _ k c.requires) _ _ c.leaf.ensures

pub negation-returns-in_default : goal.negation-returns-in_default
negation-returns-in_default t c =
    let k = c.next_token-t.ensures in
    let p = c.args.parts.now in
    let no = c.in_default in
    let leaf = falsum_leaf _ _ p c.args.depth _ k (λ l e. no.not-Letter l (same_class _ (class.Letter l) e)) (λ e. no.not-Not (same_class _ class.Not e))
    (λ e. no.not-Opening (same_class _ class.Opening e)) in
    leaf_gives _ _ p c.args.depth _ k _ leaf (begun _ _ p c.args.depth _ k c.requires) _ _ c.leaf-in_default.ensures
