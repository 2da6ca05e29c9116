-- The table of implications as text: 17 lines of 17 numbers in base ten, one space between two.
use Rattle.std.specs.Prelude.{List, [], ◌++◌, ℕ, zero, suc}
use Prim.Native.String.{String}
use Rattle.fork.specs.Fork.{whole, set_count}
use Rattle.fork.specs.Algebra.{implication}
use Rattle.text.specs.Text.{ascii, decimal}

-- The implication of a and b, and what follows it.
abbrev pub entry : ℕ → ℕ → String → List ℕ
entry a b after = decimal (implication a b) ++ ascii after

-- Those of a and each set below b, a space after each.
unfoldable pub entries : ℕ → ℕ → List ℕ
entries a zero = []
entries a (suc b) = entries a b ++ entry a b " "

-- Line a: those of a and every set.
unfoldable pub row_text : ℕ → List ℕ
row_text a = entries a whole ++ entry a whole "\n"

-- The lines below a.
unfoldable pub rows : ℕ → List ℕ
rows zero = []
rows (suc a) = rows a ++ row_text a

-- A line for each set.
unfoldable pub table_text : List ℕ
table_text = rows set_count
