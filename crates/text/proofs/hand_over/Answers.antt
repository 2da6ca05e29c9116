-- All of the text is copied, or nothing is.
use mathlib.Core.Logic.{inl, inr}
use native.Mathlib.Omega.{arith}
use Rattle.text.proofs.Appending.{handed, unhanded}
use Rattle.text.proofs.hand_over.Goals as goal

pub returns-then-text-n : goal.returns-then-text-n
returns-then-text-n c T b buffer = unhanded T _ _ _ b buffer (inl (omega arith))

pub returns-then-output-n : goal.returns-then-output-n
returns-then-output-n c T b buffer = unhanded T _ _ _ b buffer (inr (omega arith))

pub returns : goal.returns
returns c T b buffer = handed T _ _ _ b buffer _ (omega arith) (omega arith) c.copy_from_slice.ensures.after
