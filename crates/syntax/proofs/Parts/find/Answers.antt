use mathlib.Core.Path.{◌≡◌}
use lib.ListN.{get_or}
use borrow.Author.Rules.{rules}
use Rattle.syntax.specs.declared.Part.TheVariants.{Falsum}
use Rattle.syntax.proofs.Held.{row_here, row_later}
use Rattle.syntax.proofs.Parts.find.Goals as goal

pub returns-then-eq : goal.returns-then-eq
returns-then-eq c =
    let same : get_or c.args.self.now.nodes c.loop-i.i Falsum ≡ c.args.part = search (rules, c.if-eq.ensures, c.from.ensures) in
    row_here c.args.self.now _ _ c.loop-i.invariant c.loop-i-test.true Falsum same

pub loop-i-preserved : goal.loop-i-preserved
loop-i-preserved c =
    let other : get_or c.args.self.now.nodes c.loop-i.i Falsum ≡ c.args.part → ⊥ = λ e. search (rules, c.if-eq.ensures, c.from.ensures) in
    row_later c.args.self.now _ _ c.loop-i.invariant c.loop-i-test.true Falsum other
