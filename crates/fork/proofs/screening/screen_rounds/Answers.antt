use mathlib.Core.Path.{◌≡◌, subst}
use Prim.Native.Nat.{ℕ, ◌+◌, ◌*◌, ◌≤◌, ◌<◌}
use native.Mathlib.Omega.{arith}
use Rattle.syntax.specs.Parts.{held}
use Rattle.fork.specs.Fork.{set_count}
use Rattle.fork.proofs.Rounds.{Passed, passed_none, passed_more, answer_falls, answer_passes, round_inside, round_small, rounds_done}
use Rattle.fork.proofs.screening.screen_rounds.Goals as goal

pub count-end-requires : goal.count-end-requires
count-end-requires c = c.args.formula.now.tabled.few

pub overflow_mul-number : goal.overflow_mul-number
overflow_mul-number c = omega (arith, round_small _ _ c.div_ceil-round-end.ensures _ c.args.formula.now.tabled.few c.count-end.ensures _ c.loop-round-test.true)

pub first_fall-requires : goal.first_fall-requires
first_fall-requires c = omega (arith, round_small _ _ c.div_ceil-round-end.ensures _ c.args.formula.now.tabled.few c.count-end.ensures _ c.loop-round-test.true)

pub loop-round-init : goal.loop-round-init
loop-round-init c = passed_none _ _

pub loop-round-preserved : goal.loop-round-preserved
loop-round-preserved c =
    let formula = c.args.formula.now in
    let next : c.loop-round.round * set_count + set_count ≡ (c.loop-round.round + 1) * set_count = omega arith in
    subst (Passed (held formula.parts.now) formula.root) next (passed_more _ _ _ c.loop-round.invariant c.in_default.ensures)

pub overflow_add-number : goal.overflow_add-number
overflow_add-number c = omega (arith, round_small _ _ c.div_ceil-round-end.ensures _ c.args.formula.now.tabled.few c.count-end.ensures _ c.loop-round-test.true, c.in-Some.ensures.inside)

pub sets_of-requires : goal.sets_of-requires
sets_of-requires c = c.args.formula.now.tabled.few

pub returns-in-Some : goal.returns-in-Some
returns-in-Some c =
    let number = round_inside _ _ c.div_ceil-round-end.ensures _ c.loop-round-test.true in
    let inside = subst (λ (end : ℕ). c.loop-round.round * set_count < end) c.count-end.ensures number in
    answer_falls _ _ _ c.loop-round.invariant _ c.in-Some.ensures _ c.args.formula.now.tabled.count inside c.sets_of.result c.sets_of.ensures

pub returns : goal.returns
returns c =
    let number = rounds_done _ _ c.div_ceil-round-end.ensures _ c.loop-round-test.false in
    let all = subst (λ (end : ℕ). end ≤ c.loop-round.round * set_count) c.count-end.ensures number in
    answer_passes _ _ _ c.loop-round.invariant _ c.args.formula.now.tabled.count all
