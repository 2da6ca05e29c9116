-- One entry of the contents at a position, as the reader takes it.
use Rattle.std.specs.Prelude.{Bool, cond, List, ◌≡◌, ℕ, ◌+◌, leb, length, get_or, Option, Some, None}
use Rattle.atoms.specs.Bytes.{number_at}
use Rattle.certificate.specs.Format.{entry_bytes}
use Rattle.certificate.specs.declared.reader.Entry.{Entry}
use Rattle.certificate.specs.declared.reader.Reader.{Reader}

-- An entry stands there: the bytes have room for it.
abbrev pub stands_at : List ℕ → ℕ → Bool
stands_at s at = leb (at + entry_bytes) (length s)

-- "Kind (1 byte), start and length (32 bits each, little-endian)"; too few bytes are no entry.
unfoldable pub entry_at : List ℕ → ℕ → Option Entry
entry_at s at = cond (stands_at s at) (Some (record { kind = get_or s at 0; start = number_at s (at + 1) 4; size = number_at s (at + 5) 4 })) None

-- The position after the entry; where none stands, the same position.
unfoldable pub next_at : List ℕ → ℕ → ℕ
next_at s at = cond (stands_at s at) (at + entry_bytes) at

-- The entry is taken, and the reader stands after it.
pub record TakenRead (before after : Reader) (r : Option Entry) : Type 0 where
  pub is : r ≡ entry_at before.src.now before.at
  pub next_is : after.at ≡ next_at before.src.now before.at
  pub same : after.src ≡ before.src
