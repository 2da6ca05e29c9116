-- What keeps the layout is what would be written: bytes that are laid out are those of the problem and the claim read from them.
use mathlib.Core.Bool.{Bool, true, false}
use mathlib.Core.List.{List, [], ◌∷◌, ◌++◌, append_assoc}
use mathlib.Core.Logic.{◌↔◌}
use mathlib.Core.Path.{◌≡◌, refl, sym, ap, ap₂, ◌∙◌, subst}
use Prim.Native.Nat.{ℕ, zero, suc, ◌+◌, ◌*◌, ◌/◌, ◌%◌, ◌^◌, ◌≤◌, ◌<◌}
use native.Mathlib.Nat.{zero-add, pow-suc}
use native.Mathlib.Omega.{arith}
use lib.Dec.{T}
use lib.ListN.{length, get_or, take, drop, length-drop, take-append-drop}
use lib.Seq.{drop-cons, drop-drop, take-add, take_all, length-take-le}
use Rattle.atoms.specs.Bytes.{value, digits, number_at}
use Rattle.atoms.proofs.Truth.{true_T}
use Rattle.ipl.specs.Lists.{tabulate}
use Rattle.ipl.proofs.Lists.{All_left, All_right}
use Rattle.certificate.specs.Format.{set_bytes, flat_bytes, implication_bytes, step_bytes, flat_kind, implication_kind, goal_kind, claim_kind, claim_width}
use Rattle.certificate.specs.Format.{entries, entry_bytes, entry_start, bodies_start, flat_start, implication_start, goal_start, claim_start, total_length}
use Rattle.certificate.specs.Format.{each, flat_row, implication_row, step_row, world_row, claim_rows, refutes, rows_of, entry_row, contents, bodies, encode}
use Rattle.certificate.specs.Layout.{flat_from, implication_from, step_from, world_from, problem_in, claim_in, problem_of, claim_of}
use Rattle.certificate.specs.Layout.{refuting, flat_count, implication_count, claim_count, laid_out}
use Rattle.certificate.specs.Accepted.{Bytes, Addressed, Encoded}
use Rattle.certificate.proofs.Entries.{entry_parts, ClaimParts, claim_parts, LaidParts, laid_parts}
use Rattle.certificate.proofs.Tables.{flats_length, implications_length, claim_refutes, claim_rows_lem}
use Rattle.certificate.proofs.Encoding.{encode_laid, each_snoc}

-- ---- numbers

digits_value : (l : List ℕ) → Bytes l → digits (length l) (value l) ≡ l
unfolding digits value
digits_value [] h = refl
digits_value (b ∷ l) h =
    let low : (b + 256 * value l) % 256 ≡ b = omega (arith, h.0) in
    let high : (b + 256 * value l) / 256 ≡ value l = omega (arith, h.0) in
    ap₂ (λ (x : ℕ) (y : List ℕ). x ∷ y) low (ap (digits (length l)) high ∙ digits_value l h.1)

value_small : (l : List ℕ) → Bytes l → value l < 256 ^ length l
unfolding value
value_small [] h = omega arith
value_small (b ∷ l) h = omega (arith, h.0, value_small l h.1, pow-suc 256 (length l))

bytes_drop : (s : List ℕ) (n : ℕ) → Bytes s → Bytes (drop n s)
bytes_drop s n h = All_right (λ b. b < 256) (take n s) (drop n s) (subst Bytes (sym (take-append-drop n s)) h)

bytes_take : (s : List ℕ) (n : ℕ) → Bytes s → Bytes (take n s)
bytes_take s n h = All_left (λ b. b < 256) (take n s) (drop n s) (subst Bytes (sym (take-append-drop n s)) h)

module _ (s : List ℕ) (bytes : Bytes s) where
  digits_number : (at width : ℕ) → at + width ≤ length s → digits width (number_at s at width) ≡ take width (drop at s)
  unfolding number_at
  digits_number at width h =
      ap (λ (n : ℕ). digits n (value (take width (drop at s)))) (sym (length-take-le width (drop at s) (omega (arith, length-drop at s))))
      ∙ digits_value (take width (drop at s)) (bytes_take (drop at s) width (bytes_drop s at bytes))

  number_small : (at width : ℕ) → at + width ≤ length s → number_at s at width < 256 ^ width
  unfolding number_at
  number_small at width h =
      subst (λ (n : ℕ). value (take width (drop at s)) < 256 ^ n) (length-take-le width (drop at s) (omega (arith, length-drop at s)))
      (value_small (take width (drop at s)) (bytes_take (drop at s) width (bytes_drop s at bytes)))

  -- What is read at a place, and the rest.
  cut : (at width : ℕ) → take width (drop at s) ++ drop (at + width) s ≡ drop at s
  cut at width = ap (λ l. take width (drop at s) ++ l) (sym (drop-drop width at s)) ∙ take-append-drop width (drop at s)

  byte_cut : (at : ℕ) → at < length s → get_or s at 0 ∷ drop (at + 1) s ≡ drop at s
  byte_cut at h = sym (drop-cons s at 0 h ∙ ap (λ (n : ℕ). get_or s at 0 ∷ drop n s) {x = suc at} {y = at + 1} (omega arith))

  number_cut : (at width : ℕ) → at + width ≤ length s → digits width (number_at s at width) ++ drop (at + width) s ≡ drop at s
  number_cut at width h = ap (λ l. l ++ drop (at + width) s) (digits_number at width h) ∙ cut at width

  -- ---- rows

  flat_cut : (at : ℕ) → at + flat_bytes ≤ length s → flat_row (flat_from s at) ≡ take flat_bytes (drop at s)
  unfolding flat_row flat_from
  flat_cut at h =
      ap₂ (λ (x y : List ℕ). x ++ y) (digits_number at set_bytes (omega arith))
      (digits_number (at + set_bytes) set_bytes (omega arith) ∙ ap (take set_bytes) (sym (drop-drop set_bytes at s)))
      ∙ sym (take-add set_bytes set_bytes (drop at s))

  implication_cut : (at : ℕ) → at + implication_bytes ≤ length s → implication_row (implication_from s at) ≡ take implication_bytes (drop at s)
  unfolding implication_row implication_from
  implication_cut at h =
      ap (take implication_bytes)
      (ap (λ l. get_or s at 0 ∷ get_or s (at + 1) 0 ∷ l) (byte_cut (at + 2) (omega arith) ∙ ap (λ (n : ℕ). drop n s) {x = at + 2} {y = at + 1 + 1} (omega arith))
      ∙ ap (λ l. get_or s at 0 ∷ l) (byte_cut (at + 1) (omega arith)) ∙ byte_cut at (omega arith))

  step_cut : (at : ℕ) → at + step_bytes ≤ length s → step_row (step_from s at) ≡ take step_bytes (drop at s)
  unfolding step_row step_from
  step_cut at h =
      ap (λ l. get_or s at 0 ∷ l) (digits_number (at + 1) set_bytes (omega arith)) ∙ ap (take step_bytes) (byte_cut at (omega arith))

  world_cut : (at : ℕ) → at + set_bytes ≤ length s → world_row (world_from s at) ≡ take set_bytes (drop at s)
  unfolding world_row
  world_cut at h = digits_number at set_bytes h

  -- A body of whole rows.
  rows_cut : {A : Type 0} (row : A → List ℕ) (from : ℕ → A) (width : ℕ) → ((at : ℕ) → at + width ≤ length s → row (from at) ≡ take width (drop at s))
      → (start count : ℕ) → start + width * count ≤ length s → each row (tabulate (λ k. from (start + width * k)) count) ≡ take (width * count) (drop start s)
  unfolding tabulate each
  rows_cut row from width one start zero h = sym (ap (λ (n : ℕ). take n (drop start s)) {x = width * 0} {y = 0} (omega arith))
  rows_cut row from width one start (suc k) h =
      each_snoc row (tabulate (λ j. from (start + width * j)) k) (from (start + width * k))
      ∙ ap₂ (λ (x y : List ℕ). x ++ y) (rows_cut row from width one start k (omega arith)) (one (start + width * k) (omega arith) ∙ ap (take width) (sym (drop-drop (width * k) start s)))
      ∙ sym (take-add (width * k) width (drop start s))
      ∙ ap (λ (n : ℕ). take n (drop start s)) {x = width * k + width} {y = width * suc k} (omega arith)

  -- ---- the table of contents

  entry_cut : (at kind start size : ℕ) → at + entry_bytes ≤ length s → get_or s at 0 ≡ kind → number_at s (at + 1) 4 ≡ start → number_at s (at + 5) 4 ≡ size
      → entry_row kind start size ++ drop (at + entry_bytes) s ≡ drop at s
  unfolding entry_row
  entry_cut at kind start size h ek es ez =
      rw (← ek, ← es, ← ez)
      (ap (λ l. get_or s at 0 ∷ l)
      (append_assoc (digits 4 (number_at s (at + 1) 4)) (digits 4 (number_at s (at + 5) 4)) (drop (at + entry_bytes) s)
      ∙ ap (λ l. digits 4 (number_at s (at + 1) 4) ++ l)
      (ap (λ (n : ℕ). digits 4 (number_at s (at + 5) 4) ++ drop n s) {x = at + entry_bytes} {y = at + 5 + 4} (omega arith) ∙ number_cut (at + 5) 4 (omega arith)
      ∙ ap (λ (n : ℕ). drop n s) {x = at + 5} {y = at + 1 + 4} (omega arith))
      ∙ number_cut (at + 1) 4 (omega arith))
      ∙ byte_cut at (omega arith))

  module _ (laid : T (laid_out s)) where
    abbrev F : ℕ
    F = flat_count s

    abbrev X : ℕ
    X = implication_count s

    parts : LaidParts s (length s)
    parts = laid_parts s (length s) laid

    claim : ClaimParts s (length s) F X (refuting s)
    claim = claim_parts s (length s) F X (refuting s) parts.last

    size : length s ≡ total_length F X (refuting s) (claim_count s)
    unfolding claim_count
    size = claim.end

    -- The entries one after the other.
    last_cut : entry_row (claim_kind (refuting s)) (claim_start F X) (claim_width (refuting s) * claim_count s) ++ drop bodies_start s ≡ drop (entry_start 3) s
    unfolding claim_count
    last_cut =
        let last = entry_parts s (entry_start 3) (claim_kind (refuting s)) (claim_start F X) 0 (claim_width (refuting s)) claim.entry in
        entry_cut (entry_start 3) (claim_kind (refuting s)) (claim_start F X) (claim_width (refuting s) * claim_count s) (omega (arith, size))
        last.kind_is last.start_is (last.size_is ∙ zero-add (claim_width (refuting s) * claim_count s))

    third_cut : entry_row goal_kind (goal_start F X) 1 ++ drop (entry_start 3) s ≡ drop (entry_start 2) s
    third_cut =
        let third = entry_parts s (entry_start 2) goal_kind (goal_start F X) 0 1 parts.third in
        entry_cut (entry_start 2) goal_kind (goal_start F X) 1 (omega (arith, size)) third.kind_is third.start_is (omega (arith, third.size_is, parts.goal_one))

    second_cut : entry_row implication_kind (implication_start F) (implication_bytes * X) ++ drop (entry_start 2) s ≡ drop (entry_start 1) s
    unfolding implication_count
    second_cut =
        let second = entry_parts s (entry_start 1) implication_kind (implication_start F) 0 implication_bytes parts.second in
        entry_cut (entry_start 1) implication_kind (implication_start F) (implication_bytes * X) (omega (arith, size))
        second.kind_is second.start_is (second.size_is ∙ zero-add (implication_bytes * X))

    first_cut : entry_row flat_kind bodies_start (1 + flat_bytes * F) ++ drop (entry_start 1) s ≡ drop (entry_start 0) s
    unfolding flat_count
    first_cut =
        let first = entry_parts s (entry_start 0) flat_kind bodies_start 1 flat_bytes parts.first in
        entry_cut (entry_start 0) flat_kind bodies_start (1 + flat_bytes * F) (omega (arith, size)) first.kind_is first.start_is first.size_is

    contents_cut : contents F X (refuting s) (claim_count s) ++ drop bodies_start s ≡ s
    unfolding contents
    contents_cut =
        let e1 = entry_row flat_kind bodies_start (1 + flat_bytes * F) in
        let e2 = entry_row implication_kind (implication_start F) (implication_bytes * X) in
        let e3 = entry_row goal_kind (goal_start F X) 1 in
        simp append_assoc
        (ap (λ l. entries ∷ (e1 ++ (e2 ++ (e3 ++ l)))) last_cut
        ∙ ap (λ l. entries ∷ (e1 ++ (e2 ++ l))) third_cut
        ∙ ap (λ l. entries ∷ (e1 ++ l)) second_cut
        ∙ ap (λ l. entries ∷ l) first_cut
        ∙ ap (λ (b : ℕ). b ∷ drop (entry_start 0) s) (sym parts.four)
        ∙ byte_cut 0 (omega (arith, size)))

    -- ---- the bodies

    claim_cut : (r : Bool) → length s ≡ total_length F X r (claim_count s) → claim_rows (claim_in s (claim_start F X) r (claim_count s)) ≡ drop (claim_start F X) s
    unfolding claim_rows claim_in
    claim_cut true e =
        rows_cut world_row (world_from s) set_bytes world_cut (claim_start F X) (claim_count s) (omega arith)
        ∙ take_all (set_bytes * claim_count s) (drop (claim_start F X) s) (omega (arith, length-drop (claim_start F X) s))
    claim_cut false e =
        rows_cut step_row (step_from s) step_bytes step_cut (claim_start F X) (claim_count s) (omega arith)
        ∙ take_all (step_bytes * claim_count s) (drop (claim_start F X) s) (omega (arith, length-drop (claim_start F X) s))

    bodies_cut : bodies (problem_of s) (claim_of s) ≡ drop bodies_start s
    unfolding bodies problem_of problem_in claim_of
    bodies_cut =
        let n = get_or s bodies_start 0 in
        let goal = get_or s (goal_start F X) 0 in
        let flats = take (flat_bytes * F) (drop flat_start s) in
        let implications = take (implication_bytes * X) (drop (implication_start F) s) in
        simp append_assoc
        (ap₂ (λ (f x : List ℕ). n ∷ (f ++ (x ++ (goal ∷ claim_rows (claim_in s (claim_start F X) (refuting s) (claim_count s))))))
        (rows_cut flat_row (flat_from s) flat_bytes flat_cut flat_start F (omega (arith, size)))
        (rows_cut implication_row (implication_from s) implication_bytes implication_cut (implication_start F) X (omega (arith, size)))
        ∙ ap (λ l. n ∷ (flats ++ (implications ++ (goal ∷ l)))) (claim_cut (refuting s) size)
        ∙ ap (λ l. n ∷ (flats ++ (implications ++ l))) (byte_cut (goal_start F X) (omega (arith, size)))
        ∙ ap (λ l. n ∷ (flats ++ l)) (cut (implication_start F) (implication_bytes * X))
        ∙ ap (λ l. n ∷ l) (cut flat_start (flat_bytes * F))
        ∙ byte_cut bodies_start (omega (arith, size)))

    flats_are : length (problem_of s).flats ≡ F
    unfolding problem_of problem_in
    flats_are = flats_length s F

    implications_are : length (problem_of s).implications ≡ X
    unfolding problem_of problem_in
    implications_are = implications_length s (implication_start F) X

    refutes_is : refutes (claim_of s) ≡ refuting s
    unfolding claim_of
    refutes_is = claim_refutes s (claim_start F X) (refuting s) (claim_count s)

    rows_are : rows_of (claim_of s) ≡ claim_count s
    unfolding claim_of
    rows_are = claim_rows_lem s (claim_start F X) (refuting s) (claim_count s)

    -- The bytes are those of what is read from them,
    pub encode_back : s ≡ encode (problem_of s) (claim_of s)
    unfolding encode
    encode_back =
        sym (rw (flats_are, implications_are, refutes_is, rows_are) (ap (λ l. contents F X (refuting s) (claim_count s) ++ l) bodies_cut ∙ contents_cut))

    -- whose starts and lengths fit their bytes.
    pub addressed_back : Addressed (problem_of s) (claim_of s)
    unfolding claim_count
    addressed_back =
        let last = entry_parts s (entry_start 3) (claim_kind (refuting s)) (claim_start F X) 0 (claim_width (refuting s)) claim.entry in
        record {
          starts = rw (flats_are, implications_are) (subst (λ (z : ℕ). z < 2 ^ 32) last.start_is (number_small (entry_start 3 + 1) 4 (omega (arith, size))));
          size = rw (refutes_is, rows_are) (omega (arith, last.size_is, number_small (entry_start 3 + 5) 4 (omega (arith, size))));
          some = rw (refutes_is, rows_are) claim.some;
        }

-- Layout as a statement: bytes keep it exactly if they are those of some problem and claim.
pub laid_out_iff : (s : List ℕ) → Bytes s → T (laid_out s) ↔ Encoded s
laid_out_iff s bytes = (
  λ t. record { problem = problem_of s; claim = claim_of s; addressed = addressed_back s bytes t; same = encode_back s bytes t },
  λ e. true_T (ap laid_out e.same ∙ encode_laid e.problem e.claim e.addressed),
)
