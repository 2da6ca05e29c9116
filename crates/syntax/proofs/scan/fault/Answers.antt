use mathlib.Core.Logic.{inl, inr}
use mathlib.Core.Path.{◌≡◌}
use native.Mathlib.Omega.{arith}
use lib.ListN.{length}
use Rattle.syntax.proofs.Fault.{scan_start, scan_room, scan_next, scan_misfit, scan_wanting, scan_open, scan_whole}
use Rattle.syntax.proofs.scan.fault.Goals as goal

pub loop-i-init : goal.loop-i-init
loop-i-init c = scan_start _ _

pub step-requires : goal.step-requires
step-requires c = scan_room _ _ _ _ c.loop-i.invariant c.loop-i-test.true _ c.class_of.ensures c.requires

pub returns-in-None : goal.returns-in-None
returns-in-None c = scan_misfit _ _ _ _ c.loop-i.invariant c.loop-i-test.true _ c.class_of.ensures c.in-None.ensures

pub loop-i-preserved : goal.loop-i-preserved
loop-i-preserved c = scan_next _ _ _ _ c.loop-i.invariant c.loop-i-test.true _ c.class_of.ensures _ _ c.in-Some.ensures

pub returns-then-operand : goal.returns-then-operand
returns-then-operand c =
    let l = c.loop-i in
    let end : l.i ≡ length c.args.s.now = omega (arith, c.loop-i-test.false, l.auto.i-end) in
    elim c.then-operand.either [
      | inl wanted ↦ rw end at (scan_wanting _ _ _ _ l.invariant c.loop-i-test.false wanted)
      | inr (had, left) ↦ rw end at (scan_open _ _ _ _ l.invariant c.loop-i-test.false had left)
    ]

pub returns : goal.returns
returns c = scan_whole _ _ _ _ c.loop-i.invariant c.loop-i-test.false c.if-operand.false c.if-levels-ne0.false
