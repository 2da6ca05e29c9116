-- Texts as bytes, numbers in base ten, and the line of a refusal.
use Rattle.std.specs.Prelude.{Bool, true, false, cond, Option, Some, None, List, [], ◌∷◌, ◌++◌, ℕ, zero, suc, ◌+◌, ◌/◌, ◌%◌, eqb, ltb}
use Prim.Native.Char.{code}
use Prim.Native.String.{String, [] as []ˢ, ◌∷◌ as ◌∷ˢ◌}

-- The bytes of a text of ASCII characters.
unfoldable pub ascii : String → List ℕ
ascii []ˢ = []
ascii (c ∷ˢ s) = code c ∷ ascii s

abbrev pub last_digit : ℕ → ℕ
last_digit x = 48 + x % 10

-- A number's digits, the highest first, at most so many.
unfoldable pub decimal_within : ℕ → ℕ → List ℕ
decimal_within zero x = []
decimal_within (suc most) x = cond (eqb (x / 10) 0) [] (decimal_within most (x / 10)) ++ (last_digit x ∷ [])

-- A number in base ten; x never has more than suc x digits.
unfoldable pub decimal : ℕ → List ℕ
decimal x = decimal_within (suc x) x

-- A digit in base sixteen: `0` to `9`, then `a` to `f`.
unfoldable pub hex_digit : ℕ → ℕ
hex_digit d = cond (ltb d 10) (48 + d) (87 + d)

-- Bytes in base sixteen, two digits each.
unfoldable pub hex : List ℕ → List ℕ
hex [] = []
hex (b ∷ bytes) = hex_digit (b / 16) ∷ hex_digit (b % 16) ∷ hex bytes

-- A number after a label.
abbrev pub labelled : String → ℕ → List ℕ
labelled label x = ascii label ++ decimal x

-- "Refused: `refused 3 at 2`, and for every other number, as `refused 1`, no place."
unfoldable pub refusal : Bool → ℕ → ℕ → List ℕ
refusal true number place = labelled "refused " number ++ labelled " at " place ++ ascii "\n"
refusal false number place = labelled "refused " number ++ ascii "\n"

-- The same by the place, where there is one.
abbrev pub refusal_told : ℕ → Option ℕ → List ℕ
refusal_told number (Some place) = refusal true number place
refusal_told number None = refusal false number 0
