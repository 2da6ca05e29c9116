-- The contracts of the two calls: the number of the refusal, or a length, and what the buffer then holds.
use Rattle.std.specs.Prelude.{true, false, cond, List, ◌≡◌, ℕ, leb, length, Result, Ok, Err}
use Rattle.std.proofs.Math.Option.{Option, none, some}
use Rattle.atoms.specs.Bytes.{put_at}
use Rattle.refusal.specs.declared.Refusal.{Refusal}
use Rattle.refusal.specs.declared.Refusal.TheVariants.{Range, NoVerdict, NoRoom}
use Rattle.prover.specs.InRange.{in_range}
use Rattle.prover.specs.declared.Session.{Session}
use Rattle.certify.specs.Held.{Certificate, bytes_of, length_of, certificate_held}

-- "The length told must now be exactly that of the sheet of the verdict held. Without a verdict, 9 is returned."
abbrev pub told_of : Option Certificate → Result ℕ Refusal
told_of none = Err NoVerdict
told_of (some x) = Ok (length_of x)

-- "5: .. before all else."
abbrev pub length_told : Session → Result ℕ Refusal
length_told s = cond (in_range s) (told_of (certificate_held s s.held)) (Err Range)

-- "9: no verdict held to write a sheet of; 10 (after 9): lent bytes fewer than the sheet has"; else its length.
abbrev answer_of : Option Certificate → ℕ → Result ℕ Refusal
answer_of none size = Err NoVerdict
answer_of (some x) size = cond (leb (length_of x) size) (Ok (length_of x)) (Err NoRoom)

-- The certificate at the start where it fits; "bytes past a written sheet keep their contents". Else "nothing written".
abbrev buffer_after : Option Certificate → List ℕ → List ℕ
buffer_after none before = before
buffer_after (some x) before = put_at before 0 (bytes_of x)

-- What is written where there is this to write.
pub record WrittenAs (x : Option Certificate) (before : List ℕ) (r : Result ℕ Refusal) (after : List ℕ) : Type 0 where
  pub answer : r ≡ answer_of x (length before)
  pub buffer : after ≡ buffer_after x before

-- "5: .. before all else"; a session in range has the certificate of its verdict written.
pub record Written (s : Session) (before : List ℕ) (r : Result ℕ Refusal) (after : List ℕ) : Type 0 where
  pub out_of_range : in_range s ≡ false → (r ≡ Err Range) × (after ≡ before)
  pub written : in_range s ≡ true → WrittenAs (certificate_held s s.held) before r after
