use Rattle.std.proofs.Common.{ℕ, ◌+◌, sym, ◌∙◌, subst, arith}
use Rattle.sat.specs.Learning.{Moved}
use Rattle.sat.proofs.learning.room.shorten.Goals as goal

pub loop-c-preserved : goal.loop-c-preserved
loop-c-preserved c =
    let inv = c.loop-c.invariant in
    let pass = c.pass-to.ensures in
    let t = c.args.t.now in
    let before : Moved t.own t.left t.right c.loop-c.t.total c.loop-c.t.left c.loop-c.t.right c.loop-c.to c.loop-c.c =
    subst (λ (n : ℕ). Moved t.own t.left t.right n c.loop-c.t.left c.loop-c.t.right c.loop-c.to c.loop-c.c) (sym inv.1) inv.2 in (
      pass.same_own ∙ inv.0,
      pass.same_total ∙ inv.1,
      subst (λ (n : ℕ). Moved t.own t.left t.right n c.pass-to.new.t.left c.pass-to.new.t.right c.pass-to.result (c.loop-c.c + 1)) inv.1
          (pass.moved _ _ _ (omega (arith, inv.1)) (omega (arith, inv.1)) before),
    )
