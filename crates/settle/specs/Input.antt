-- The formula on standard input.
use Rattle.std.specs.Prelude.{cond, List, ℕ, ◌+◌, ◌-◌, eqb, length, get_or, take}
use Rattle.syntax.specs.Refusal.{most_bytes}

-- "The program .. drops one final newline."
unfoldable pub formula_length : List ℕ → ℕ
formula_length s = cond (eqb (get_or s (length s - 1) 0) 10) (length s - 1) (length s)

-- The input without it.
abbrev pub formula : List ℕ → List ℕ
formula s = take (formula_length s) s

-- An input of so many bytes is refused for its length, whatever follows: they are all that is read.
abbrev pub enough : ℕ
enough = most_bytes + 2
