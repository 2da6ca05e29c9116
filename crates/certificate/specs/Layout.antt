-- How bytes are read, and when they keep the layout (document 01: refusal 13). Bytes past the end count as 0.
use Rattle.std.specs.Prelude.{Bool, true, false, ◌&&◌, List, ℕ, ◌+◌, ◌-◌, ◌*◌, ◌/◌, eqb, leb, length, get_or}
use Rattle.atoms.specs.Bytes.{number_at}
use Rattle.ipl.specs.Lists.{tabulate}
use Rattle.ipl.specs.Clause.{Flat, Implication}
use Rattle.ipl.specs.Search.{Step}
use Rattle.certificate.specs.Certificate.{Problem, Claim, valid, refuted}
use Rattle.certificate.specs.Format.{set_bytes, flat_bytes, implication_bytes, step_bytes, flat_kind, implication_kind, goal_kind, world_kind, claim_kind, claim_width, claim_least}
use Rattle.certificate.specs.Format.{entries, entry_start, bodies_start, flat_start, implication_start, goal_start, claim_start, total_length}

-- The row that starts at a place.
unfoldable pub flat_from : List ℕ → ℕ → Flat
flat_from s at = record { left = number_at s at set_bytes; right = number_at s (at + set_bytes) set_bytes }

unfoldable pub implication_from : List ℕ → ℕ → Implication
implication_from s at = record { a = get_or s at 0; b = get_or s (at + 1) 0; c = get_or s (at + 2) 0 }

unfoldable pub step_from : List ℕ → ℕ → Step
step_from s at = record { number = get_or s at 0; assumed = number_at s (at + 1) set_bytes }

abbrev pub world_from : List ℕ → ℕ → ℕ
world_from s at = number_at s at set_bytes

-- The rows of a body: so many, from its start on.
abbrev pub flats_in : List ℕ → ℕ → List Flat
flats_in s count = tabulate (λ k. flat_from s (flat_start + flat_bytes * k)) count

abbrev pub implications_in : List ℕ → ℕ → ℕ → List Implication
implications_in s start count = tabulate (λ k. implication_from s (start + implication_bytes * k)) count

abbrev pub steps_in : List ℕ → ℕ → ℕ → List Step
steps_in s start count = tabulate (λ k. step_from s (start + step_bytes * k)) count

abbrev pub worlds_in : List ℕ → ℕ → ℕ → List ℕ
worlds_in s start count = tabulate (λ k. world_from s (start + set_bytes * k)) count

-- The contents entry at a place: how many rows of a width its body has after `extra` bytes.
unfoldable pub rows_in : List ℕ → ℕ → ℕ → ℕ → ℕ
rows_in s at extra width = (number_at s (at + 5) 4 - extra) / width

-- The contents entry at a place has this kind and this start, and its body is `extra` bytes and a whole number of rows.
unfoldable pub entry_right : List ℕ → ℕ → ℕ → ℕ → ℕ → ℕ → Bool
entry_right s at kind start extra width =
    eqb (get_or s at 0) kind && eqb (number_at s (at + 1) 4) start && eqb (number_at s (at + 5) 4) (extra + width * rows_in s at extra width)

-- The last entry is of kind 5, worlds.
unfoldable pub refuting : List ℕ → Bool
refuting s = eqb (get_or s (entry_start 3) 0) world_kind

unfoldable pub flat_count : List ℕ → ℕ
flat_count s = rows_in s (entry_start 0) 1 flat_bytes

unfoldable pub implication_count : List ℕ → ℕ
implication_count s = rows_in s (entry_start 1) 0 implication_bytes

unfoldable pub claim_count : List ℕ → ℕ
claim_count s = rows_in s (entry_start 3) 0 (claim_width (refuting s))

-- The last entry after F flat clauses and X implications, with its body "to the end" of L bytes.
unfoldable pub claim_laid : List ℕ → ℕ → ℕ → ℕ → Bool → Bool
claim_laid s L F X r =
    entry_right s (entry_start 3) (claim_kind r) (claim_start F X) 0 (claim_width r)
    && leb (claim_least r) (rows_in s (entry_start 3) 0 (claim_width r))
    && eqb L (total_length F X r (rows_in s (entry_start 3) 0 (claim_width r)))

-- Layout: four entries of kinds 1, 2, 3 and 4 or 5, "in order, without gaps, to the end"; bodies of whole rows, "at least one" world.
-- It needs only the contents and the length L of all bytes.
unfoldable pub laid_in : List ℕ → ℕ → Bool
laid_in s L =
    eqb (get_or s 0 0) entries
    && entry_right s (entry_start 0) flat_kind bodies_start 1 flat_bytes
    && entry_right s (entry_start 1) implication_kind (implication_start (flat_count s)) 0 implication_bytes
    && entry_right s (entry_start 2) goal_kind (goal_start (flat_count s) (implication_count s)) 0 1
    && eqb (rows_in s (entry_start 2) 0 1) 1
    && claim_laid s L (flat_count s) (implication_count s) (refuting s)

abbrev pub laid_out : List ℕ → Bool
laid_out s = laid_in s (length s)

-- What the bodies say, over F flat clauses, X implications and R rows of the claim.
unfoldable pub problem_in : List ℕ → ℕ → ℕ → Problem
problem_in s F X =
    record {
      n = get_or s bodies_start 0;
      flats = flats_in s F;
      implications = implications_in s (implication_start F) X;
      goal = get_or s (goal_start F X) 0;
    }

unfoldable pub claim_in : List ℕ → ℕ → Bool → ℕ → Claim
claim_in s at true R = refuted (worlds_in s at R)
claim_in s at false R = valid (steps_in s at R)

unfoldable pub problem_of : List ℕ → Problem
problem_of s = problem_in s (flat_count s) (implication_count s)

unfoldable pub claim_of : List ℕ → Claim
claim_of s = claim_in s (claim_start (flat_count s) (implication_count s)) (refuting s) (claim_count s)
