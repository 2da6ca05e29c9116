-- Marks to come back to (document 02, change 3; the field says checkpoint), in the order in which they were last set.
use Rattle.std.specs.Prelude.{Bool, not, cond, List, [], ◌∷◌, ◌++◌, ℕ, suc, eqb, ltb, length, get_or}
use Rattle.ipl.specs.Lists.{keep}

-- "A session gets eight marks, numbered 0 to 7."
abbrev pub mark_table : ℕ
mark_table = 8

-- "Setting one remembers the clauses, implications and learned steps held": how many there were of each.
pub record Mark : Type 0 where
  pub number : ℕ
  pub flats : ℕ
  pub implications : ℕ
  pub steps : ℕ

-- The marks of other numbers than j.
abbrev pub others : ℕ → List Mark → List Mark
others j M = keep (λ m. not (eqb m.number j)) M

-- "Setting it again moves it": the mark m is now the last set.
unfoldable pub set_last : Mark → List Mark → List Mark
set_last m M = others m.number M ++ (m ∷ [])

-- How many marks stand before that of number j; all of them, where j was never set or is lost.
unfoldable pub place_of : ℕ → List Mark → ℕ
place_of j [] = 0
place_of j (m ∷ M) = cond (eqb m.number j) 0 (suc (place_of j M))

-- It was set, and is not lost.
unfoldable pub is_set : ℕ → List Mark → Bool
is_set j M = ltb (place_of j M) (length M)

-- The mark at a place.
abbrev pub mark_at : List Mark → ℕ → Mark
mark_at M i = get_or M i (record { number = 0; flats = 0; implications = 0; steps = 0 })
