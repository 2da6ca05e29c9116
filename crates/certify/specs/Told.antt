-- "The length told must now be exactly that of the sheet of the verdict held": of every session, whoever made it.
use Rattle.std.specs.Prelude.{List, ◌≡◌, ℕ, ◌≤◌, ◌<◌, length, take, Result, Ok, Err}
use Rattle.std.proofs.Math.Option.{some}
use Rattle.refusal.specs.declared.Refusal.{Refusal}
use Rattle.refusal.specs.declared.Refusal.TheVariants.{NoRoom}
use Rattle.prover.specs.declared.Session.{Session}
use Rattle.certify.specs.Held.{Certificate, bytes_of, certificate_held}
use Rattle.certify.specs.Written.{length_told, Written}

-- A length is told of s; r and `after` are what writing gave.
pub record ToldExactly (s : Session) (told : ℕ) (before : List ℕ) (r : Result ℕ Refusal) (after : List ℕ) : Type 0 where
  pub sheet : Certificate
  pub held_is : certificate_held s s.held ≡ some sheet
  pub exact : length (bytes_of sheet) ≡ told
  -- Bytes of just that number are enough,
  pub enough : told ≤ length before → (r ≡ Ok told) × (take told after ≡ bytes_of sheet)
  -- and with one fewer 10 is met.
  pub too_few : length before < told → r ≡ Err NoRoom

-- Where no length is told, writing is refused by the same.
abbrev pub AsTold : Result ℕ Refusal → Session → List ℕ → Result ℕ Refusal → List ℕ → Type 0
AsTold (Ok told) s before r after = ToldExactly s told before r after
AsTold (Err e) s before r after = r ≡ Err e

abbrev pub ToldIsWritten : Type 0
ToldIsWritten = (s : Session) (before : List ℕ) (r : Result ℕ Refusal) (after : List ℕ) → Written s before r after → AsTold (length_told s) s before r after
