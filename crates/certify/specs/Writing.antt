-- Terms of inner contracts: the rows of a table, and the counts of the certificate of a session.
use Rattle.std.specs.Prelude.{Bool, true, false, List, [], ◌++◌, ◌≡◌, ℕ, zero, suc, ◌≤◌}
use Rattle.prover.specs.InRange.{in_range}
use Rattle.prover.specs.declared.Session.{Session}
use Rattle.certificate.specs.Format.{total_length}
use Rattle.certificate.specs.declared.Contents.{Contents}

-- So many rows, one after the other.
unfoldable pub row_after_row : (ℕ → List ℕ) → ℕ → List ℕ
row_after_row row zero = []
row_after_row row (suc n) = row_after_row row n ++ row n

-- How many worlds or steps a session holds.
abbrev pub rows_held : Session → Bool → ℕ
rows_held s true = s.worlds.count
rows_held s false = s.steps.count

abbrev pub contents_held : Session → Bool → Contents
contents_held s refuting =
    record { flats = s.flats.count; implications = s.implications.count; refuting = refuting; rows = rows_held s refuting }

-- The counts k are those of the session s in range, and its certificate fits so many bytes.
pub record Fits (s : Session) (k : Contents) (bytes : ℕ) : Type 0 where
  pub is_in_range : in_range s ≡ true
  pub counts_are : k ≡ contents_held s k.refuting
  pub room : total_length k.flats k.implications k.refuting k.rows ≤ bytes
