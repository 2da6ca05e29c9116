use Prim.Native.Nat.{ℕ}
use mathlib.Core.Path.{◌≡◌, refl, ap, ◌∙◌, sym}
use Rattle.ipl.specs.Lists.{tabulate}
use Rattle.ipl.specs.Marks.{place_of}
use Rattle.prover.specs.State.{mark_row}
use Rattle.prover.proofs.MarkRows.{place_next, place_found}
use native.Mathlib.Omega.{arith}
use Rattle.prover.proofs.Marks.place_of.Goals as goal

pub loop-i-init : goal.loop-i-init
unfolding place_of tabulate
loop-i-init c = refl

pub returns-then-self-i : goal.returns-then-self-i
returns-then-self-i c =
    let t = c.args.self.now in
    (place_found c.args.number (mark_row t) c.loop-i.i c.loop-i.invariant t.count (omega arith) c.if-self-i.true, omega arith)

pub loop-i-preserved : goal.loop-i-preserved
loop-i-preserved c = place_next c.args.number (mark_row c.args.self.now) c.loop-i.i c.loop-i.invariant c.if-self-i.false

pub returns : goal.returns
returns c =
    let t = c.args.self.now in
    let end : c.loop-i.i ≡ t.count = omega arith in
    sym end ∙ sym c.loop-i.invariant ∙ ap (λ (n : ℕ). place_of c.args.number (tabulate (mark_row t) n)) end
