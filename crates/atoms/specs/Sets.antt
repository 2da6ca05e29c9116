-- Sets of atoms as numbers of any width (document 01: "a set of atoms is a 64-bit number, atom i counting 2^i").
use Rattle.std.specs.Prelude.{◌≡◌, Bool, not, ℕ, suc, ◌-◌, ◌/◌, ◌%◌, ◌^◌, ◌≤◌, ◌<◌, eqb}
use Rattle.std.specs.Int.Bits.{bit_and, bit_or, bit_xor}

-- How many atoms there is room for: they are numbered below it.
unfoldable pub limit : ℕ
limit = 64

-- Atom i of the set s: 1 where it is in s, 0 where it is not.
unfoldable pub bit_at : ℕ → ℕ → ℕ
bit_at s i = s / 2 ^ i % 2

-- Atom i is in s.
unfoldable pub has : ℕ → ℕ → Bool
has s i = eqb (bit_at s i) 1

-- The set of one atom.
abbrev pub single : ℕ → ℕ
single i = 2 ^ i

-- Union.
abbrev pub union : ℕ → ℕ → ℕ
union a b = bit_or a b

-- Intersection.
abbrev pub common : ℕ → ℕ → ℕ
common a b = bit_and a b

-- The atoms of a that b lacks.
unfoldable pub minus : ℕ → ℕ → ℕ
minus a b = bit_xor a (bit_and a b)

-- s with the atom i, and s without it.
abbrev pub insert : ℕ → ℕ → ℕ
insert s i = union s (single i)

abbrev pub remove : ℕ → ℕ → ℕ
remove s i = minus s (single i)

-- Inclusion: each atom of a is one of b.
unfoldable pub within : ℕ → ℕ → Bool
within a b = eqb (bit_and a b) a

-- Some atom is in both.
unfoldable pub meets : ℕ → ℕ → Bool
meets a b = not (eqb (bit_and a b) 0)

-- s without its lowest atom: the bits that s shares with the number before it.
abbrev pub without_lowest : ℕ → ℕ
without_lowest s = bit_and s (s - 1)

-- x is the set of the highest atom of s.
pub record Highest (s x : ℕ) : Type 0 where
  pub atom : ℕ
  pub alone : x ≡ single atom
  pub member : single atom ≤ s
  pub above : s < single (suc atom)
