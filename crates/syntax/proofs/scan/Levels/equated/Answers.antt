-- By the test.
use Rattle.syntax.proofs.Levels.{equated_again, equated_first}
use Rattle.syntax.proofs.scan.Levels.equated.Goals as goal

pub returns-then-self : goal.returns-then-self
returns-then-self c = equated_again c.args.self c.if-self.true

pub returns : goal.returns
returns c = equated_first c.args.self c.if-self.false
