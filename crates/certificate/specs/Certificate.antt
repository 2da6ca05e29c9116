-- What a certificate says (document 01: The answer sheet).
use Rattle.std.specs.Prelude.{List, ℕ}
use Rattle.ipl.specs.Clause.{Flat, Implication}
use Rattle.ipl.specs.Search.{Step}

-- "The byte n, then flat clauses; .. implications; .. the goal byte."
pub record Problem : Type 0 where
  pub n : ℕ
  pub flats : List Flat
  pub implications : List Implication
  pub goal : ℕ

-- "Then either .. all held steps, or .. worlds .., root first."
pub data Claim : Type 0 where
  valid : List Step → Claim
  refuted : List ℕ → Claim

-- What is said of any bytes: accepted, or "its number" and the place of a wrong claim (0 for another refusal).
pub data Judgement : Type 0 where
  accepted : Problem → Claim → Judgement
  refused : ℕ → ℕ → Judgement
