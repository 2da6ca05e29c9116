-- What the code says by parts of a line: its first word and what follows it, and the arguments that are read so.
use Rattle.std.specs.Prelude.{Bool, true, false, List, [], ◌∷◌, ◌++◌, ◌≡◌, ℕ, suc, eqb, Option, None, Some}
use Rattle.script.specs.Words.{words_of, unindented}

-- The place of the first byte b; where there is none, the length.
unfoldable pub index_after : Bool → ℕ → ℕ
index_after true n = 0
index_after false n = suc n

unfoldable pub index_of : ℕ → List ℕ → ℕ
index_of b [] = 0
index_of b (x ∷ l) = index_after (eqb x b) (index_of b l)

-- A line's first word, and what follows it.
pub record FirstWord (line word rest : List ℕ) : Type 0 where
  pub words : words_of line ≡ word ∷ words_of rest
  pub is : unindented line ≡ word ++ rest

-- The value of the first word; none where it has none, and where there is no word.
abbrev pub first_of : (List ℕ → Option ℕ) → List (List ℕ) → Option ℕ
first_of number [] = None
first_of number (w ∷ ws) = number w

-- The first word is an argument of this value, and what follows it.
pub record Argument (number : List ℕ → Option ℕ) (line : List ℕ) (value : ℕ) (rest : List ℕ) : Type 0 where
  pub word : List ℕ
  pub words : words_of line ≡ word ∷ words_of rest
  pub is : number word ≡ Some value

-- Whether no word follows.
abbrev pub no_word : List (List ℕ) → Bool
no_word [] = true
no_word (w ∷ ws) = false
