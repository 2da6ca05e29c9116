-- The bytes of a certificate: "Contents first, then the bodies .. in order, without gaps, to the end."
use Rattle.std.specs.Prelude.{Bool, true, false, List, [], ◌∷◌, ◌++◌, ℕ, ◌+◌, ◌*◌, length}
use Rattle.atoms.specs.Bytes.{digits}
use Rattle.ipl.specs.Clause.{Flat, Implication}
use Rattle.ipl.specs.Search.{Step}
use Rattle.certificate.specs.Certificate.{Problem, Claim, valid, refuted}

-- "8 bytes each": a set, and so a world.
abbrev pub set_bytes : ℕ
set_bytes = 8

-- "(Left, right, 8 bytes each.)"
abbrev pub flat_bytes : ℕ
flat_bytes = 2 * set_bytes

-- "(a, b, c, a byte each.)"
abbrev pub implication_bytes : ℕ
implication_bytes = 3

-- "(Implication byte, A in 8 bytes.)"
abbrev pub step_bytes : ℕ
step_bytes = 1 + set_bytes

-- "Kinds: 1, .. flat clauses; 2, implications; 3, the goal byte; then either 4, all held steps, or 5, worlds."
abbrev pub flat_kind : ℕ
flat_kind = 1

abbrev pub implication_kind : ℕ
implication_kind = 2

abbrev pub goal_kind : ℕ
goal_kind = 3

abbrev pub step_kind : ℕ
step_kind = 4

abbrev pub world_kind : ℕ
world_kind = 5

-- The rows of a body, one after the other.
unfoldable pub each : {A : Type 0} → (A → List ℕ) → List A → List ℕ
each row [] = []
each row (x ∷ l) = row x ++ each row l

-- "Flat clauses (left, right, 8 bytes each, little-endian)."
unfoldable pub flat_row : Flat → List ℕ
flat_row f = digits set_bytes f.left ++ digits set_bytes f.right

-- "Implications (a, b, c, a byte each)."
unfoldable pub implication_row : Implication → List ℕ
implication_row i = i.a ∷ i.b ∷ i.c ∷ []

-- "Steps (implication byte, A in 8 bytes)."
unfoldable pub step_row : Step → List ℕ
step_row s = s.number ∷ digits set_bytes s.assumed

-- "Worlds of 8 bytes."
unfoldable pub world_row : ℕ → List ℕ
world_row w = digits set_bytes w

unfoldable pub claim_rows : Claim → List ℕ
claim_rows (valid S) = each step_row S
claim_rows (refuted W) = each world_row W

-- Which of the two claims it is, its kind, how many rows it has, and how wide one is.
unfoldable pub refutes : Claim → Bool
refutes (valid S) = false
refutes (refuted W) = true

unfoldable pub rows_of : Claim → ℕ
rows_of (valid S) = length S
rows_of (refuted W) = length W

abbrev pub claim_kind : Bool → ℕ
claim_kind true = world_kind
claim_kind false = step_kind

abbrev pub claim_width : Bool → ℕ
claim_width true = set_bytes
claim_width false = step_bytes

-- "At least one" world; a claim can have no step.
abbrev pub claim_least : Bool → ℕ
claim_least true = 1
claim_least false = 0

-- "Byte 0 is the number of entries, 4."
abbrev pub entries : ℕ
entries = 4

-- "Each entry: kind (1 byte), start and length (32 bits each)."
abbrev pub entry_bytes : ℕ
entry_bytes = 9

-- Where entry k stands, the first being entry 0; the bodies start after the last.
abbrev pub entry_start : ℕ → ℕ
entry_start k = 1 + entry_bytes * k

abbrev pub bodies_start : ℕ
bodies_start = entry_start entries

-- "The byte n, then flat clauses."
abbrev pub flat_start : ℕ
flat_start = bodies_start + 1

-- Where the implications, the goal and the claim start, over F flat clauses and X implications.
abbrev pub implication_start : ℕ → ℕ
implication_start F = flat_start + flat_bytes * F

abbrev pub goal_start : ℕ → ℕ → ℕ
goal_start F X = implication_start F + implication_bytes * X

abbrev pub claim_start : ℕ → ℕ → ℕ
claim_start F X = goal_start F X + 1

-- Where it all ends, with a claim of R rows.
abbrev pub total_length : ℕ → ℕ → Bool → ℕ → ℕ
total_length F X r R = claim_start F X + claim_width r * R

-- "Start and length (32 bits each, little-endian, counted from the sheet's first byte)."
unfoldable pub entry_row : ℕ → ℕ → ℕ → List ℕ
entry_row kind start size = kind ∷ digits 4 start ++ digits 4 size

-- "Contents first."
unfoldable pub contents : ℕ → ℕ → Bool → ℕ → List ℕ
contents F X r R =
    entries ∷ []
    ++ entry_row flat_kind bodies_start (1 + flat_bytes * F)
    ++ entry_row implication_kind (implication_start F) (implication_bytes * X)
    ++ entry_row goal_kind (goal_start F X) 1
    ++ entry_row (claim_kind r) (claim_start F X) (claim_width r * R)

unfoldable pub bodies : Problem → Claim → List ℕ
bodies p c = (p.n ∷ each flat_row p.flats) ++ each implication_row p.implications ++ (p.goal ∷ []) ++ claim_rows c

-- The certificate of a problem and a claim.
unfoldable pub encode : Problem → Claim → List ℕ
encode p c = contents (length p.flats) (length p.implications) (refutes c) (rows_of c) ++ bodies p c

-- Its length.
unfoldable pub encoded_length : Problem → Claim → ℕ
encoded_length p c = total_length (length p.flats) (length p.implications) (refutes c) (rows_of c)

-- "At most 13,223": no longer one is accepted.
abbrev pub longest_accepted : ℕ
longest_accepted = 13223
