-- The numbers and the bytes that words stand for.
use Rattle.std.specs.Prelude.{Bool, cond, ◌&&◌, ◌||◌, List, [], ◌∷◌, ℕ, ◌+◌, ◌-◌, ◌*◌, ◌%◌, eqb, leb, ltb, length, Option, None, Some}
use Rattle.std.specs.List.{list_all}

unfoldable pub is_digit : ℕ → Bool
is_digit b = leb 48 b && leb b 57

-- The number of the digits of x and then these.
unfoldable pub value_from : ℕ → List ℕ → ℕ
value_from x [] = x
value_from x (b ∷ word) = value_from (10 * x + (b - 48)) word

-- "Numbers are decimal digits", of a value below a bound.
unfoldable pub number_below : ℕ → List ℕ → Option ℕ
number_below bound word = cond (list_all is_digit word && ltb (value_from 0 word) bound) (Some (value_from 0 word)) None

-- "Small digits": `0` to `9`, `a` to `f`.
unfoldable pub is_hex_letter : ℕ → Bool
is_hex_letter b = leb 97 b && leb b 102

unfoldable pub is_hex_digit : ℕ → Bool
is_hex_digit b = is_digit b || is_hex_letter b

-- Another byte counts nothing.
unfoldable pub hex_value : ℕ → ℕ
hex_value b = cond (is_digit b) (b - 48) (cond (is_hex_letter b) (b - 87) 0)

-- The bytes of two digits each.
unfoldable pub paired : List ℕ → List ℕ
paired [] = []
paired (high ∷ []) = []
paired (high ∷ low ∷ word) = (16 * hex_value high + hex_value low) ∷ paired word

-- "An odd number of them or another byte is no call."
unfoldable pub bytes_in : List ℕ → Option (List ℕ)
bytes_in word = cond (list_all is_hex_digit word && eqb (length word % 2) 0) (Some (paired word)) None
