-- By the test.
use mathlib.Core.Path.{refl}
use Rattle.syntax.proofs.Position.{token_found, token_none}
use Rattle.syntax.proofs.bytes.next_token.Goals as goal

pub returns-then-i-s : goal.returns-then-i-s
returns-then-i-s c = token_found _ _ _ c.past_spaces-i.ensures _ c.if-i-s.true c.class_of.ensures

pub returns : goal.returns
returns c = token_none _ _ _ c.past_spaces-i.ensures _ refl c.if-i-s.false
