-- The certificate (document 01: answer sheet) of what a session holds.
use Rattle.std.specs.Prelude.{Bool, true, false, List, ℕ}
use Rattle.std.proofs.Math.Option.{Option, none, some}
use Rattle.prover.specs.State.{steps_of, worlds_of, book}
use Rattle.prover.specs.declared.Held.{Held}
use Rattle.prover.specs.declared.Held.TheVariants.{Nothing, Valid, Refuted}
use Rattle.prover.specs.declared.Session.{Session}
use Rattle.certificate.specs.Certificate.{Problem, Claim, valid, refuted}
use Rattle.certificate.specs.Format.{encode, encoded_length}
use Rattle.certificate.specs.Written.{problem_of_book}

-- A problem and the claim made of it.
pub record Certificate : Type 0 where
  pub problem : Problem
  pub claim : Claim

abbrev pub bytes_of : Certificate → List ℕ
bytes_of x = encode x.problem x.claim

-- How many they are.
abbrev pub length_of : Certificate → ℕ
length_of x = encoded_length x.problem x.claim

-- "Either .. all held steps, or .. worlds": the worlds where it refutes.
abbrev pub claim_held : Session → Bool → Claim
claim_held s true = refuted (worlds_of s.worlds)
claim_held s false = valid (steps_of s.steps)

-- The clauses held with a goal, and the steps or the worlds held.
abbrev pub certificate_of : Session → ℕ → Bool → Certificate
certificate_of s g refuting = record { problem = problem_of_book (book s) g; claim = claim_held s refuting }

-- That of the verdict held.
abbrev pub certificate_held : Session → Held → Option Certificate
certificate_held s Nothing = none
certificate_held s (Valid g) = some (certificate_of s g false)
certificate_held s (Refuted g) = some (certificate_of s g true)
