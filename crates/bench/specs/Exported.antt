-- What the exported question returns and writes.
use Rattle.std.specs.Prelude.{Bool, true, false, List, ◌≡◌, ℕ, min}
use Rattle.std.proofs.Math.Option.{none, some}
use Rattle.atoms.specs.Sets.{limit}
use Rattle.atoms.specs.Words.{row_of, RowSet}
use Rattle.ipl.specs.Question.{ask}
use Rattle.sat.specs.Table.{clauses}

-- Proved: nothing is written. Countered: the smallest model is in row 0, and nothing else changed.
abbrev pub Asked : List ℕ → List ℕ → ℕ → ℕ → List ℕ → ℕ → Bool → List ℕ → List ℕ → Type 0
Asked left right count n given asked true before after =
    (ask (min n limit) (clauses left right count) (row_of given 0) asked ≡ none) × (after ≡ before)
Asked left right count n given asked false before after =
    (m : ℕ) × (ask (min n limit) (clauses left right count) (row_of given 0) asked ≡ some m) × RowSet before 0 m after
