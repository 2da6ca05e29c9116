-- Which numbers are in range over n atoms (document 01: refusal 6), and the sizes of the tables.
use Rattle.std.specs.Prelude.{Bool, ◌&&◌, ◌||◌, ℕ, ◌^◌, eqb, ltb}
use Rattle.ipl.specs.Clause.{bot, Flat, Implication}

-- "512 flat clauses, closing ones included; 128 implications; 512 learned steps; 256 worlds."
abbrev pub flat_table : ℕ
flat_table = 512

abbrev pub implication_table : ℕ
implication_table = 128

abbrev pub step_table : ℕ
step_table = 512

abbrev pub world_table : ℕ
world_table = 256

-- "An atom number .. below n, save 255 for b, c or a goal."
unfoldable pub atom_or_bot : ℕ → ℕ → Bool
atom_or_bot n x = ltb x n || eqb x bot

-- A set of atoms below n.
unfoldable pub set_in_range : ℕ → ℕ → Bool
set_in_range n s = ltb s (2 ^ n)

unfoldable pub flat_in_range : ℕ → Flat → Bool
flat_in_range n f = set_in_range n f.left && set_in_range n f.right

unfoldable pub implication_in_range : ℕ → Implication → Bool
implication_in_range n i = ltb i.a n && atom_or_bot n i.b && atom_or_bot n i.c
