-- A script is cut at the bytes that end its lines.
use mathlib.Core.List.{List, [], ◌∷◌, ◌++◌}
use mathlib.Core.Path.{◌≡◌, refl}
use Prim.Native.Nat.{ℕ}
use borrow.Author.Tests.{ne_eqb}
use Rattle.script.specs.Words.{line_feed, split, lines_of}
use Rattle.script.specs.Pieces.{OneLine}

-- The last line.
pub last_line : (line : List ℕ) → OneLine line → lines_of line ≡ line ∷ []
unfolding split
last_line [] one = refl
last_line (b ∷ line) one = rw (ne_eqb b line_feed one.0, last_line line one.1)

-- A line that another follows.
pub first_line : (line script : List ℕ) → OneLine line → lines_of (line ++ line_feed ∷ script) ≡ line ∷ lines_of script
unfolding split
first_line [] script one = refl
first_line (b ∷ line) script one = rw (ne_eqb b line_feed one.0, first_line line script one.1)
