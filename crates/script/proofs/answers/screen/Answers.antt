-- The text is screened, and its line written.
use Rattle.syntax.specs.Judge.{judge}
use Rattle.fork.specs.Screen.{screening}
use Rattle.report.proofs.Screened.{line_is}
use Rattle.text.proofs.Appending.{same_text}
use Rattle.script.proofs.answers.screen.Goals as goal

pub returns : goal.returns
returns c = same_text (line_is (screening (judge c.args.text.now)) c.screen.result c.screen.ensures) c.write.ensures
