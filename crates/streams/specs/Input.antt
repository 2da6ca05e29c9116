-- How many bytes came.
use Rattle.std.specs.Prelude.{◌≡◌, ℕ, ◌≤◌, List, length, take, Result, Ok, Err}
use Rattle.streams.specs.declared.Told.{Told}

-- The first n bytes of the buffer are there, and are n.
abbrev pub Counts : ℕ → List ℕ → Type 0
Counts n buffer = (n ≤ length buffer) × (n ≡ length (take n buffer))

-- They stand at the start of the buffer.
abbrev pub Within : Result ℕ Told → List ℕ → Type 0
Within (Ok n) buffer = Counts n buffer
Within (Err told) buffer = Unit {0}

-- No more are counted than were to be.
abbrev pub AtMost : Result ℕ Told → ℕ → Type 0
AtMost (Ok n) most = n ≤ most
AtMost (Err told) most = Unit {0}
