use mathlib.Core.Path.{◌≡◌, refl, sym, ap, ◌∙◌, subst}
use Prim.Native.Nat.{ℕ, ◌+◌}
use Rattle.ipl.specs.Lists.{keep, tabulate}
use Rattle.ipl.specs.Marks.{others}
use Rattle.prover.specs.State.{mark_row}
use Rattle.prover.specs.declared.Marks.{Marks}
use Rattle.prover.proofs.MarkRows.{Kept, row_kept, row_passed}
use native.Mathlib.Omega.{arith}
use Rattle.prover.proofs.Marks.drop_mark.Goals as goal
use Rattle.prover.proofs.Marks.drop_mark.Goals.{else-mark-number, then-mark-number}

pub loop-i-init : goal.loop-i-init
unfolding keep tabulate
loop-i-init c = record { inside = omega arith; few = omega arith; rows = refl }

pub push-requires : goal.push-requires
push-requires c = omega (arith, c.loop-i.invariant.few, c.requires)

pub loop-i-preserved : goal.loop-i-preserved
loop-i-preserved c =
    let given = c.args in
    let i = c.loop-i.i in
    elim c.if-mark-number.branch [
      | then-mark-number w ↦ subst (λ (u : Marks). Kept given.number given.self.now u (i + 1)) (sym w.self-is)
          (row_kept given.number given.self.now c.loop-i.self i c.loop-i.invariant (omega arith) _ w.if-mark-number.true w.push.ensures)
      | else-mark-number w ↦ subst (λ (u : Marks). Kept given.number given.self.now u (i + 1)) (sym w.self-is)
          (row_passed given.number given.self.now c.loop-i.self i c.loop-i.invariant (omega arith) w.if-mark-number.false)
    ]

pub returns : goal.returns
returns c =
    let t = c.args.self.now in
    let h = c.loop-i.invariant in
    let end : c.loop-i.i ≡ t.count = omega (arith, h.inside) in
    (h.rows ∙ ap (λ (n : ℕ). others c.args.number (tabulate (mark_row t) n)) end, omega (arith, h.few, c.requires))
