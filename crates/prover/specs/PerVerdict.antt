-- What a mean tells, in numbers: whole questions per verdict and the remainder; or a refusal's.
use Rattle.std.specs.Prelude.{ℕ, Result, Ok, Err}
use Rattle.refusal.specs.Numbers.{number_of}
use Rattle.refusal.specs.declared.Refusal.{Refusal}
use Rattle.prover.specs.declared.Mean.{Mean}

pub data PerVerdict : Type 0 where
  Questions : ℕ → ℕ → PerVerdict
  Refused : ℕ → PerVerdict

abbrev pub per_verdict : Result Mean Refusal → PerVerdict
per_verdict (Ok m) = Questions m.whole m.remainder
per_verdict (Err e) = Refused (number_of e)
