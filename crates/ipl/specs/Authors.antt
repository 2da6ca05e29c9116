-- Authors (document 02, change 7): every question and every page names one.
use Rattle.std.specs.Prelude.{Bool, cond, ℕ, ltb}

-- "One author, 0 to 15."
abbrev pub author_table : ℕ
author_table = 16

-- "The program is 0."
abbrev pub program : ℕ
program = 0

abbrev pub is_author : ℕ → Bool
is_author a = ltb a author_table

-- "20 for an author above 15, straight after 5 and before 19 or 6": that, or the number that is judged next.
abbrev pub author_number : ℕ → ℕ → ℕ
author_number a number = cond (is_author a) number 20
