-- The letters of a table of parts.
use Rattle.std.specs.Prelude.{List, [], ◌∷◌, ℕ, length}
use Rattle.syntax.specs.Nodes.{Entry, letter, falsum, compound}

-- "In order of first standing."
unfoldable pub letters_of : List Entry → List ℕ
letters_of [] = []
letters_of (letter l ∷ T) = l ∷ letters_of T
letters_of (falsum ∷ T) = letters_of T
letters_of (compound c a b ∷ T) = letters_of T

abbrev pub letter_count : List Entry → ℕ
letter_count T = length (letters_of T)

-- How many letters one entry brings.
unfoldable pub letters_in : Entry → ℕ
letters_in (letter l) = 1
letters_in falsum = 0
letters_in (compound c a b) = 0
