-- What acceptance and each refusal mean, as statements over the rules of `ipl`.
use Rattle.std.specs.Prelude.{false, List, ◌≡◌, ℕ, ◌*◌, ◌^◌, ◌≤◌, ◌<◌, T, length}
use Rattle.std.proofs.Math.Option.{some}
use Rattle.ipl.specs.Lists.{All}
use Rattle.ipl.specs.Clause.{closed}
use Rattle.ipl.specs.Claim.{Derivation, WorldsRight}
use Rattle.certificate.specs.Certificate.{Problem, Claim, valid, refuted}
use Rattle.certificate.specs.Format.{encode, refutes, rows_of, claim_start, claim_width, claim_least}
use Rattle.certificate.specs.Layout.{laid_out, problem_of, claim_of}
use Rattle.certificate.specs.Judge.{in_range, all_closed, wrong_place}

-- Each is a byte.
abbrev pub Bytes : List ℕ → Type 0
Bytes s = All (λ b. b < 256) s

-- "Steps are right if ..; worlds are right if ..".
abbrev pub ClaimRight : Problem → Claim → Type 0
ClaimRight p (valid S) = Derivation p.n p.flats p.implications p.goal S
ClaimRight p (refuted W) = WorldsRight p.flats p.implications p.goal W

-- Ranges, closing clauses, and a claim that meets the published rules.
pub record Right (p : Problem) (c : Claim) : Type 0 where
  pub range : T (in_range p c)
  pub closings : All (λ i. T (closed p.flats i)) p.implications
  pub claim : ClaimRight p c

-- Starts and lengths fit 32 bits, and there is "at least one" world.
pub record Addressed (p : Problem) (c : Claim) : Type 0 where
  pub starts : claim_start (length p.flats) (length p.implications) < 2 ^ 32
  pub size : claim_width (refutes c) * rows_of c < 2 ^ 32
  pub some : claim_least (refutes c) ≤ rows_of c

-- Bytes that keep the layout: those of a problem and a claim.
pub record Encoded (s : List ℕ) : Type 0 where
  pub problem : Problem
  pub claim : Claim
  pub addressed : Addressed problem claim
  pub same : s ≡ encode problem claim

-- "Each number comes when its line holds and no earlier one does, and only then."
pub data Refusal (s : List ℕ) : ℕ → ℕ → Type 0 where
  layout : laid_out s ≡ false → Refusal s 13 0
  range : T (laid_out s) → in_range (problem_of s) (claim_of s) ≡ false → Refusal s 14 0
  closing : T (laid_out s) → T (in_range (problem_of s) (claim_of s)) → all_closed (problem_of s) ≡ false → Refusal s 15 0
  claim : {place : ℕ} → T (laid_out s) → T (in_range (problem_of s) (claim_of s)) → T (all_closed (problem_of s))
      → wrong_place (problem_of s) (claim_of s) ≡ some place → Refusal s 16 place
