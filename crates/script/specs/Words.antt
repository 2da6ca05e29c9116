-- A script is cut into lines, and a line into words.
use Rattle.std.specs.Prelude.{cond, List, [], ◌∷◌, ℕ, eqb}

abbrev pub line_feed : ℕ
line_feed = 10

abbrev pub space : ℕ
space = 32

abbrev pub before : ℕ → List (List ℕ) → List (List ℕ)
before x [] = []
before x (piece ∷ pieces) = (x ∷ piece) ∷ pieces

-- The pieces between the bytes b: one more than there are such bytes.
unfoldable pub split : ℕ → List ℕ → List (List ℕ)
split b [] = [] ∷ []
split b (x ∷ l) = cond (eqb x b) ([] ∷ split b l) (before x (split b l))

-- "Lines end with byte 10; a last line without it counts." Where nothing follows the last byte 10 that is the empty line, which is silent.
abbrev pub lines_of : List ℕ → List (List ℕ)
lines_of script = split line_feed script

abbrev pub filled : List (List ℕ) → List (List ℕ)
filled [] = []
filled ([] ∷ pieces) = filled pieces
filled ((x ∷ piece) ∷ pieces) = (x ∷ piece) ∷ filled pieces

-- "Words are separated by one or more spaces, with spaces allowed before and after."
unfoldable pub words_of : List ℕ → List (List ℕ)
words_of line = filled (split space line)

-- A line from its first word on.
unfoldable pub unindented : List ℕ → List ℕ
unindented [] = []
unindented (x ∷ l) = cond (eqb x space) (unindented l) (x ∷ l)
