-- What a call tells, in numbers: that of its refusal, or 0, beside the session that it leaves, and the verdict of a question.
use Rattle.std.specs.Prelude.{ℕ, Option, Result, Ok, Err}
use Rattle.std.specs.Option.{unwrap_or}
use Rattle.refusal.specs.Numbers.{number_of, place_of}
use Rattle.refusal.specs.declared.Refusal.{Refusal}
use Rattle.prover.specs.declared.Verdict.{Verdict}
use Rattle.prover.specs.declared.Verdict.TheVariants as verdict
use Rattle.prover.specs.declared.Session.{Session}

-- Valid, with the count of steps held; refuted, with the count of worlds; or refused, with a number and a place, which is 0 where the
-- refusal has none.
pub data Told : Type 0 where
  Valid : ℕ → Told
  Refuted : ℕ → Told
  Refused : ℕ → ℕ → Told

abbrev pub place_told : Option ℕ → ℕ
place_told o = unwrap_or o 0

-- By what a refusal of any type tells.
abbrev pub told_with : {E : Type 0} → (E → ℕ) → (E → Option ℕ) → Result Verdict E → Told
told_with number place (Ok (verdict.Valid steps)) = Valid steps
told_with number place (Ok (verdict.Refuted worlds)) = Refuted worlds
told_with number place (Err e) = Refused (number e) (place_told (place e))

abbrev pub told : Result Verdict Refusal → Told
told = told_with number_of place_of

-- The number of a refusal, or 0.
abbrev pub number_in : {T : Type 0} → Result T Refusal → ℕ
number_in (Ok x) = 0
number_in (Err e) = number_of e

-- The place of a refusal, or 0.
abbrev pub place_in : {T : Type 0} → Result T Refusal → ℕ
place_in (Ok x) = 0
place_in (Err e) = place_told (place_of e)

-- The number of a refusal, or 0; and the session that the caller goes on with.
pub record Changed : Type 0 where
  pub refusal : ℕ
  pub session : Session

abbrev pub changed : {T : Type 0} → Result T Refusal → Session → Changed
changed r s = record { refusal = number_in r; session = s }

-- The answer to a question, and the session that the caller goes on with.
pub record Answered : Type 0 where
  pub verdict : Told
  pub session : Session

abbrev pub answered : Result Verdict Refusal → Session → Answered
answered r s = record { verdict = told r; session = s }
