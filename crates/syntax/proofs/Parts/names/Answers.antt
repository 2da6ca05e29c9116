-- With ⊥, or without.
use mathlib.Core.Path.{◌∙◌}
use Rattle.syntax.proofs.Held.{names_but_one, names_all}
use Rattle.syntax.proofs.Parts.names.Goals as goal

pub returns-in-Some : goal.returns-in-Some
returns-in-Some c = rw c.from-rows.ensures (names_but_one c.args.self.now _ c.in-Some.ensures c.requires)

pub returns-in-None : goal.returns-in-None
returns-in-None c = c.from-rows.ensures ∙ names_all c.args.self.now c.in-None.ensures
