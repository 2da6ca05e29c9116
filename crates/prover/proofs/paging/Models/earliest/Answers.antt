use mathlib.Core.Path.{◌≡◌, refl, sym, ap, ◌∙◌}
use Prim.Native.Nat.{ℕ}
use Rattle.atoms.specs.Sets.{has}
use Rattle.ipl.specs.Lists.{tabulate}
use Rattle.ipl.specs.Page.{earliest}
use Rattle.prover.specs.Page.{model_row}
use Rattle.prover.proofs.ModelRows.{passed_next, found_here}
use native.Mathlib.Omega.{arith}
use Rattle.prover.proofs.paging.Models.earliest.Goals as goal

pub loop-i-init : goal.loop-i-init
unfolding earliest tabulate
loop-i-init c = refl

pub returns-then-not-has : goal.returns-then-not-has
returns-then-not-has c =
    let t = c.args.self.now in
    found_here c.args.goal (model_row t) c.loop-i.i c.loop-i.invariant t.count (omega arith)
    (sym (c.has.ensures ∙ ap (λ (root : ℕ). has root c.args.goal) c.row.ensures) ∙ c.if-not-has.true)

pub loop-i-preserved : goal.loop-i-preserved
loop-i-preserved c =
    passed_next c.args.goal (model_row c.args.self.now) c.loop-i.i c.loop-i.invariant
    (sym (c.has.ensures ∙ ap (λ (root : ℕ). has root c.args.goal) c.row.ensures) ∙ c.if-not-has.false)

pub returns : goal.returns
returns c =
    let t = c.args.self.now in
    let end : c.loop-i.i ≡ t.count = omega arith in
    sym (sym (ap (λ (n : ℕ). earliest c.args.goal (tabulate (model_row t) n)) end) ∙ c.loop-i.invariant)
