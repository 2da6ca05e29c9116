-- What a whole script prints: from its bytes alone.
use Rattle.std.specs.Prelude.{List, [], ◌∷◌, ◌++◌, ℕ, suc, min}
use Rattle.ipl.specs.Book.{opened}
use Rattle.script.specs.Words.{lines_of}
use Rattle.script.specs.Command.{line_of}
use Rattle.script.specs.State.{State, fresh, printed_line, next_line}

-- "K from 1 over all lines"; the number of a line stays at this once there.
abbrev pub most_lines : ℕ
most_lines = 18446744073709551615

abbrev pub number_after : ℕ → ℕ
number_after number = min (suc number) most_lines

-- Of lines from a state on, the first of which has this number.
unfoldable pub printed_from : State → ℕ → List (List ℕ) → List ℕ
printed_from σ number [] = []
printed_from σ number (line ∷ lines) = printed_line σ number (line_of line) ++ printed_from (next_line σ (line_of line)) (number_after number) lines

-- "The session at the start is the empty session of one atom."
unfoldable pub transcript : List ℕ → List ℕ
transcript script = printed_from (fresh (opened 1)) 1 (lines_of script)
