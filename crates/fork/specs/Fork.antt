-- The four-tipped fork (document 02, change 8: "a root with four tips above it").
use Rattle.std.specs.Prelude.{Bool, ◌||◌, ℕ, zero, suc, ◌+◌, ◌^◌, eqb}
use Rattle.atoms.specs.Sets.{has}
use Rattle.ipl.specs.Kripke.{Model}

abbrev pub tips : ℕ
tips = 4

-- World 0 is the root, and world i + 1 is tip i: of two different worlds the root alone is below another.
abbrev pub below : ℕ → ℕ → Bool
below u v = eqb u 0 || eqb u v

-- The fork with a valuation: holds w l says that the letter l is forced at w.
abbrev pub fork : (ℕ → ℕ → Bool) → Model
fork holds = record { count = suc tips; root = 0; le = below; holds = holds }

-- "17 upward closed sets: the 16 sets of tips, numbered 0 to 15 with tip i counting 2^i, and the whole, 16."
abbrev pub whole : ℕ
whole = 2 ^ tips

abbrev pub set_count : ℕ
set_count = whole + 1

-- The world is in the set with this number.
unfoldable pub member : ℕ → ℕ → Bool
member s zero = eqb s whole
member s (suc i) = eqb s whole || has s i

-- Each letter is forced at the worlds of its set.
abbrev pub valuation : (ℕ → ℕ) → ℕ → ℕ → Bool
valuation v w l = member (v l) w
