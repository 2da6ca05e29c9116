-- Found again, in a new row, or without room for one.
use mathlib.Core.Path.{refl}
use native.Mathlib.Omega.{arith}
use Rattle.syntax.proofs.Held.{found_named, new_named, full_named}
use Rattle.syntax.proofs.Parts.insert.Goals as goal

pub returns-in-Some : goal.returns-in-Some
returns-in-Some c = found_named _ _ _ c.in-Some.ensures

pub returns-then-i-eq-PARTS : goal.returns-then-i-eq-PARTS
returns-then-i-eq-PARTS c = full_named c.args.self.now c.args.part c.in_default.ensures (omega (arith, c.from-i.ensures, c.if-i-eq-PARTS.true))

pub returns : goal.returns
returns c =
    let p = c.args.self.now in
    new_named p c.args.part c.in_default.ensures _ (rw c.from-i.ensures) refl (omega (arith, c.from-i.ensures, c.if-i-eq-PARTS.false, p.bounded))
