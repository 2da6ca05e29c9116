-- Numbers as bytes (document 01: "32 bits each, little-endian", "8 bytes each, little-endian").
use Rattle.std.specs.Prelude.{cond, List, [], ◌∷◌, ◌++◌, ◌≡◌, ℕ, zero, suc, ◌+◌, ◌*◌, ◌/◌, ◌%◌, ◌^◌, ◌<◌, leb, length, take, drop}

-- The number that bytes stand for, the lowest first.
unfoldable pub value : List ℕ → ℕ
value [] = 0
value (b ∷ bs) = b + 256 * value bs

-- A number as `width` bytes.
unfoldable pub digits : ℕ → ℕ → List ℕ
digits zero x = []
digits (suc width) x = x % 256 ∷ digits width (x / 256)

-- The number in the `width` bytes at a place; bytes past the end count nothing.
unfoldable pub number_at : List ℕ → ℕ → ℕ → ℕ
number_at bytes at width = value (take width (drop at bytes))

-- r is that number, and fits the width.
pub record NumberRead (bytes : List ℕ) (at width r : ℕ) : Type 0 where
  pub is : r ≡ number_at bytes at width
  pub fits : r < 256 ^ width

-- Bytes with others put at a place, where they fit; else as they were.
unfoldable pub put_at : List ℕ → ℕ → List ℕ → List ℕ
put_at bytes at new = cond (leb (at + length new) (length bytes)) (take at bytes ++ new ++ drop (at + length new) bytes) bytes
