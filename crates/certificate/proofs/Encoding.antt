-- What is written is read back: the bytes of a problem and a claim keep the layout, and say that problem and that claim.
use mathlib.Core.Bool.{Bool, true, false}
use mathlib.Core.List.{List, [], ◌∷◌, ◌++◌, append_assoc, append-nil}
use mathlib.Core.Path.{◌≡◌, refl, sym, ap, ap₂, ◌∙◌, subst}
use Prim.Native.Nat.{ℕ, zero, suc, ◌+◌, ◌-◌, ◌*◌, ◌/◌, ◌^◌, ◌≤◌, ◌<◌}
use native.Mathlib.Nat.{zero-add, mul-div_cancel_left, not-suc-le-zero}
use native.Mathlib.Omega.{arith}
use lib.Dec.{T, eqb}
use lib.ListN.{length, get_or, take, drop, length-append}
use lib.Seq.{drop-append-add, drop-drop, take_at, drop_at, get_or-drop, ext_get_or}
use Rattle.atoms.specs.Bytes.{value, digits, number_at}
use Rattle.atoms.proofs.Truth.{true_T}
use Rattle.atoms.proofs.Bytes.{length_digits, value_digits}
use Rattle.ipl.specs.Lists.{All, tabulate}
use Rattle.ipl.specs.Clause.{Flat, Implication}
use Rattle.ipl.specs.Search.{Step}
use Rattle.ipl.proofs.Lists.{All_at, tabulate_length, tabulate_at}
use Rattle.certificate.specs.Certificate.{Problem, Claim, valid, refuted}
use Rattle.certificate.specs.Format.{set_bytes, flat_bytes, implication_bytes, step_bytes, flat_kind, implication_kind, goal_kind, claim_kind, claim_width, claim_least}
use Rattle.certificate.specs.Format.{entries, entry_start, bodies_start, flat_start, implication_start, goal_start, claim_start, total_length}
use Rattle.certificate.specs.Format.{each, flat_row, implication_row, step_row, world_row, claim_rows, refutes, rows_of, entry_row, contents, bodies, encode, encoded_length}
use Rattle.certificate.specs.Layout.{flat_from, implication_from, step_from, world_from, flats_in, implications_in, problem_in, claim_in, problem_of, claim_of}
use Rattle.certificate.specs.Layout.{rows_in, entry_right, refuting, flat_count, implication_count, claim_count, claim_laid, laid_out}
use Rattle.certificate.specs.Accepted.{Addressed}
use Rattle.certificate.proofs.Entries.{first_test, second_test, third_test, claim_entry, rows_last, entry_true, claim_true, laid_true, width_positive}

-- ---- lengths

pub length_flat : (f : Flat) → length (flat_row f) ≡ flat_bytes
unfolding flat_row
length_flat f = omega (arith, length-append (digits set_bytes f.left) (digits set_bytes f.right), length_digits set_bytes f.left, length_digits set_bytes f.right)

pub length_implication : (i : Implication) → length (implication_row i) ≡ implication_bytes
unfolding implication_row
length_implication i = refl

pub length_step : (s : Step) → length (step_row s) ≡ step_bytes
unfolding step_row
length_step s = ap suc (length_digits set_bytes s.assumed)

pub length_world : (w : ℕ) → length (world_row w) ≡ set_bytes
unfolding world_row
length_world w = length_digits set_bytes w

-- Bodies one after the other.
pub each_append : {A : Type 0} (row : A → List ℕ) (l m : List A) → each row (l ++ m) ≡ each row l ++ each row m
unfolding each
each_append row [] m = refl
each_append row (x ∷ l) m = ap (λ r. row x ++ r) (each_append row l m) ∙ sym (append_assoc (row x) (each row l) (each row m))

pub each_snoc : {A : Type 0} (row : A → List ℕ) (l : List A) (x : A) → each row (l ++ (x ∷ [])) ≡ each row l ++ row x
unfolding each
each_snoc row l x = each_append row l (x ∷ []) ∙ ap (λ r. each row l ++ r) (append-nil (row x))

module _ {A : Type 0} (row : A → List ℕ) (width : ℕ) (wide : (x : A) → length (row x) ≡ width) where
  pub length_each : (l : List A) → length (each row l) ≡ width * length l
  unfolding each
  length_each [] = omega arith
  length_each (x ∷ l) = omega (arith, length-append (row x) (each row l), wide x, length_each l)

  -- Row i of a body, with what follows it.
  drop_each : (l : List A) (rest : List ℕ) (i : ℕ) (d : A) → i < length l → drop (width * i) (each row l ++ rest) ≡ row (get_or l i d) ++ (each row (drop (suc i) l) ++ rest)
  unfolding each
  drop_each [] rest i d h = absurd (not-suc-le-zero h)
  drop_each (x ∷ l) rest zero d h =
      ap (λ (n : ℕ). drop n (row x ++ each row l ++ rest)) {x = width * 0} {y = 0} (omega arith) ∙ append_assoc (row x) (each row l) rest
  drop_each (x ∷ l) rest (suc i) d h =
      ap (drop (width * suc i)) (append_assoc (row x) (each row l) rest)
      ∙ ap (λ (n : ℕ). drop n (row x ++ (each row l ++ rest))) {x = width * suc i} {y = length (row x) + width * i} (omega (arith, wide x))
      ∙ drop-append-add (row x) (each row l ++ rest) (width * i)
      ∙ drop_each l rest i d (omega arith)

  -- A body is read back row by row.
  rows_read : (P : A → Type 0) (s : List ℕ) (from : ℕ → A) → ((x : A) (at : ℕ) (more : List ℕ) → P x → drop at s ≡ row x ++ more → from at ≡ x)
      → (start : ℕ) (l : List A) (rest : List ℕ) (d : A) → All P l → drop start s ≡ each row l ++ rest → tabulate (λ k. from (start + width * k)) (length l) ≡ l
  rows_read P s from read start l rest d h e =
      ext_get_or d (tabulate (λ k. from (start + width * k)) (length l)) l (tabulate_length (λ k. from (start + width * k)) (length l)) (λ i b.
      let in_list : i < length l = omega (arith, tabulate_length (λ k. from (start + width * k)) (length l)) in
      tabulate_at (λ k. from (start + width * k)) d (length l) i in_list
      ∙ read (get_or l i d) (start + width * i) (each row (drop (suc i) l) ++ rest) (All_at P l d h i in_list)
      (sym (drop-drop (width * i) start s) ∙ ap (drop (width * i)) e ∙ drop_each l rest i d in_list))

-- ---- one number, one byte, one row

advance : (s : List ℕ) (at n : ℕ) (xs more : List ℕ) → drop at s ≡ xs ++ more → length xs ≡ n → drop (at + n) s ≡ more
advance s at n xs more e l = sym (drop-drop n at s) ∙ ap (drop n) e ∙ drop_at xs more n l

number_at_lem : (s : List ℕ) (at width x : ℕ) (more : List ℕ) → x < 256 ^ width → drop at s ≡ digits width x ++ more → number_at s at width ≡ x
unfolding number_at
number_at_lem s at width x more h e =
    ap (λ l. value (take width l)) e ∙ ap value (take_at (digits width x) more width (length_digits width x)) ∙ value_digits width x h

byte_at : (s : List ℕ) (at b : ℕ) (more : List ℕ) → drop at s ≡ b ∷ more → get_or s at 0 ≡ b
byte_at s at b more e = ap (λ (n : ℕ). get_or s n 0) {x = at} {y = at + 0} (omega arith) ∙ sym (get_or-drop at s 0 0) ∙ ap (λ (l : List ℕ). get_or l 0 0) e

-- Numbers that fit their bytes.
pub record FlatFits (f : Flat) : Type 0 where
  pub left : f.left < 256 ^ set_bytes
  pub right : f.right < 256 ^ set_bytes

flat_read_lem : (s : List ℕ) (f : Flat) (at : ℕ) (more : List ℕ) → FlatFits f → drop at s ≡ flat_row f ++ more → flat_from s at ≡ f
unfolding flat_from flat_row
flat_read_lem s f at more h e =
    let both : drop at s ≡ digits set_bytes f.left ++ (digits set_bytes f.right ++ more) = e ∙ append_assoc (digits set_bytes f.left) (digits set_bytes f.right) more in
    ap₂ {C = Flat} (λ (l r : ℕ). record { left = l; right = r }) (number_at_lem s at set_bytes f.left (digits set_bytes f.right ++ more) h.left both)
    (number_at_lem s (at + set_bytes) set_bytes f.right more h.right (advance s at set_bytes (digits set_bytes f.left) (digits set_bytes f.right ++ more) both (length_digits set_bytes f.left)))

implication_read_lem : (s : List ℕ) (i : Implication) (at : ℕ) (more : List ℕ) → Unit {0} → drop at s ≡ implication_row i ++ more → implication_from s at ≡ i
unfolding implication_from implication_row
implication_read_lem s i at more u e =
    let second : drop (at + 1) s ≡ i.b ∷ i.c ∷ more = advance s at 1 (i.a ∷ []) (i.b ∷ i.c ∷ more) e refl in
    let third : drop (at + 2) s ≡ i.c ∷ more = advance s at 2 (i.a ∷ i.b ∷ []) (i.c ∷ more) e refl in
    ap (λ (z : ℕ). record { a = z; b = get_or s (at + 1) 0; c = get_or s (at + 2) 0 }) (byte_at s at i.a (i.b ∷ i.c ∷ more) e)
    ∙ ap₂ {C = Implication} (λ (y z : ℕ). record { a = i.a; b = y; c = z }) (byte_at s (at + 1) i.b (i.c ∷ more) second) (byte_at s (at + 2) i.c more third)

step_read_lem : (s : List ℕ) (x : Step) (at : ℕ) (more : List ℕ) → x.assumed < 256 ^ set_bytes → drop at s ≡ step_row x ++ more → step_from s at ≡ x
unfolding step_from step_row
step_read_lem s x at more h e =
    ap₂ {C = Step} (λ (y z : ℕ). record { number = y; assumed = z }) (byte_at s at x.number (digits set_bytes x.assumed ++ more) e)
    (number_at_lem s (at + 1) set_bytes x.assumed more h (advance s at 1 (x.number ∷ []) (digits set_bytes x.assumed ++ more) e refl))

world_read_lem : (s : List ℕ) (w at : ℕ) (more : List ℕ) → w < 256 ^ set_bytes → drop at s ≡ world_row w ++ more → world_from s at ≡ w
unfolding world_row
world_read_lem s w at more h e = number_at_lem s at set_bytes w more h e

-- ---- the table of contents

-- An entry that says how many rows there are.
module _ (s : List ℕ) (at kind start extra width count : ℕ) (wide : 0 < width) (size : number_at s (at + 5) 4 ≡ extra + width * count) where
  entry_rows : rows_in s at extra width ≡ count
  unfolding rows_in
  entry_rows =
      let rest : number_at s (at + 5) 4 - extra ≡ width * count = omega arith in
      ap (λ (z : ℕ). z / width) rest ∙ mul-div_cancel_left count wide

  entry_written : get_or s at 0 ≡ kind → number_at s (at + 1) 4 ≡ start → T (entry_right s at kind start extra width)
  entry_written ek es =
      true_T (entry_true s at kind start extra width (record { kind_is = ek; start_is = es; size_is = size ∙ ap (λ (z : ℕ). extra + width * z) (sym entry_rows) }))

kind_back : (r : Bool) → eqb (claim_kind r) 5 ≡ r
kind_back true = refl
kind_back false = refl

module _ (F X : ℕ) (r : Bool) (R : ℕ) (starts : claim_start F X < 2 ^ 32) (size : claim_width r * R < 2 ^ 32) (body : List ℕ) where
  abbrev s : List ℕ
  s = contents F X r R ++ body

  body_is : drop bodies_start s ≡ body
  unfolding contents entry_row digits
  body_is = refl

  flats_size : number_at s (entry_start 0 + 5) 4 ≡ 1 + flat_bytes * F
  unfolding contents entry_row digits number_at
  flats_size = value_digits 4 (1 + flat_bytes * F) (omega arith)

  flats_count : flat_count s ≡ F
  unfolding flat_count
  flats_count = entry_rows s (entry_start 0) flat_kind bodies_start 1 flat_bytes F (omega arith) flats_size

  first_written : T (first_test s)
  unfolding contents entry_row digits number_at value
  first_written = entry_written s (entry_start 0) flat_kind bodies_start 1 flat_bytes F (omega arith) flats_size refl refl

  implications_size : number_at s (entry_start 1 + 5) 4 ≡ 0 + implication_bytes * X
  unfolding contents entry_row digits number_at
  implications_size = value_digits 4 (implication_bytes * X) (omega arith) ∙ sym (zero-add (implication_bytes * X))

  implications_count : implication_count s ≡ X
  unfolding implication_count
  implications_count = entry_rows s (entry_start 1) implication_kind (implication_start F) 0 implication_bytes X (omega arith) implications_size

  second_written : T (second_test s F)
  unfolding contents entry_row digits number_at value
  second_written =
      entry_written s (entry_start 1) implication_kind (implication_start F) 0 implication_bytes X (omega arith) implications_size
      refl (value_digits 4 (implication_start F) (omega arith))

  third_written : T (third_test s F X)
  unfolding contents entry_row digits number_at value
  third_written =
      entry_written s (entry_start 2) goal_kind (goal_start F X) 0 1 1 (omega arith) refl refl (value_digits 4 (goal_start F X) (omega arith))

  goal_one : rows_in s (entry_start 2) 0 1 ≡ 1
  unfolding contents entry_row digits number_at value
  goal_one = entry_rows s (entry_start 2) goal_kind (goal_start F X) 0 1 1 (omega arith) refl

  refuting_is : refuting s ≡ r
  unfolding refuting contents entry_row digits
  refuting_is = kind_back r

  last_size : number_at s (entry_start 3 + 5) 4 ≡ 0 + claim_width r * R
  unfolding contents entry_row digits number_at
  last_size = value_digits 4 (claim_width r * R) (omega arith) ∙ sym (zero-add (claim_width r * R))

  rows_count : rows_last s r ≡ R
  rows_count = entry_rows s (entry_start 3) (claim_kind r) (claim_start F X) 0 (claim_width r) R (width_positive r) last_size

  last_written : T (claim_entry s F X r)
  unfolding contents entry_row digits number_at
  last_written =
      entry_written s (entry_start 3) (claim_kind r) (claim_start F X) 0 (claim_width r) R (width_positive r) last_size
      refl (value_digits 4 (claim_start F X) (omega arith))

  claim_count_lem : claim_count s ≡ R
  unfolding claim_count
  claim_count_lem = ap (rows_last s) refuting_is ∙ rows_count

  four_written : get_or s 0 0 ≡ entries
  unfolding contents entry_row digits
  four_written = refl

  length_whole : length body ≡ total_length F X r R - bodies_start → length s ≡ total_length F X r R
  unfolding contents entry_row digits
  length_whole len = omega (arith, length-append (take bodies_start s) (drop bodies_start s))

  -- Bytes with these contents, to the end, keep the layout.
  contents_laid : length body ≡ total_length F X r R - bodies_start → claim_least r ≤ R → laid_out s ≡ true
  contents_laid len least = laid_true s (length s) (record {
    four = four_written;
    first = first_written;
    second = subst (λ (f : ℕ). T (second_test s f)) (sym flats_count) second_written;
    third = subst (λ (f : ℕ). T (third_test s f (implication_count s))) (sym flats_count)
        (subst (λ (x : ℕ). T (third_test s F x)) (sym implications_count) third_written);
    goal_one = goal_one;
    last = subst (λ (f : ℕ). T (claim_laid s (length s) f (implication_count s) (refuting s))) (sym flats_count)
        (subst (λ (x : ℕ). T (claim_laid s (length s) F x (refuting s))) (sym implications_count)
        (subst (λ z. T (claim_laid s (length s) F X z)) (sym refuting_is)
        (true_T (claim_true s (length s) F X r (record {
          entry = last_written;
          some = omega (arith, rows_count);
          end = length_whole len ∙ ap (total_length F X r) (sym rows_count);
        })))));
  })

-- ---- the whole

-- The sets of a claim fit their bytes.
abbrev pub ClaimFits : Claim → Type 0
ClaimFits (valid S) = All (λ z. z.assumed < 256 ^ set_bytes) S
ClaimFits (refuted W) = All (λ w. w < 256 ^ set_bytes) W

pub length_claim : (c : Claim) → length (claim_rows c) ≡ claim_width (refutes c) * rows_of c
unfolding claim_rows refutes rows_of
length_claim (valid S) = length_each step_row step_bytes length_step S
length_claim (refuted W) = length_each world_row set_bytes length_world W

module _ (p : Problem) (c : Claim) where
  abbrev F : ℕ
  F = length p.flats

  abbrev X : ℕ
  X = length p.implications

  flats_bytes : length (each flat_row p.flats) ≡ flat_bytes * F
  flats_bytes = length_each flat_row flat_bytes length_flat p.flats

  implications_bytes : length (each implication_row p.implications) ≡ implication_bytes * X
  implications_bytes = length_each implication_row implication_bytes length_implication p.implications

  -- What follows the flat clauses, and what follows the byte n.
  abbrev after_flats : List ℕ
  after_flats = each implication_row p.implications ++ (p.goal ∷ claim_rows c)

  abbrev after_count : List ℕ
  after_count = each flat_row p.flats ++ after_flats

  bodies_are : bodies p c ≡ p.n ∷ after_count
  unfolding bodies
  bodies_are = simp append_assoc

  bodies_length : length (bodies p c) ≡ total_length F X (refutes c) (rows_of c) - bodies_start
  bodies_length =
      ap length bodies_are
      ∙ omega (
        arith,
        length-append (each flat_row p.flats) after_flats,
        length-append (each implication_row p.implications) (p.goal ∷ claim_rows c),
        flats_bytes,
        implications_bytes,
        length_claim c,
      )

  -- Its length.
  pub encode_length : length (encode p c) ≡ encoded_length p c
  unfolding encode encoded_length contents entry_row digits
  encode_length = omega (arith, bodies_length)

  module _ (addressed : Addressed p c) where
    -- What is written keeps the layout.
    pub encode_laid : laid_out (encode p c) ≡ true
    unfolding encode
    encode_laid = contents_laid F X (refutes c) (rows_of c) addressed.starts addressed.size (bodies p c) bodies_length addressed.some

    -- Where each body starts.
    from_bodies : drop bodies_start (encode p c) ≡ p.n ∷ after_count
    unfolding encode
    from_bodies = body_is F X (refutes c) (rows_of c) addressed.starts addressed.size (bodies p c) ∙ bodies_are

    from_flats : drop flat_start (encode p c) ≡ after_count
    from_flats = advance (encode p c) bodies_start 1 (p.n ∷ []) after_count from_bodies refl

    from_implications : drop (implication_start F) (encode p c) ≡ after_flats
    from_implications = advance (encode p c) flat_start (flat_bytes * F) (each flat_row p.flats) after_flats from_flats flats_bytes

    from_goal : drop (goal_start F X) (encode p c) ≡ p.goal ∷ claim_rows c
    from_goal = advance (encode p c) (implication_start F) (implication_bytes * X) (each implication_row p.implications) (p.goal ∷ claim_rows c) from_implications implications_bytes

    from_claim : drop (claim_start F X) (encode p c) ≡ claim_rows c
    from_claim = advance (encode p c) (goal_start F X) 1 (p.goal ∷ []) (claim_rows c) from_goal refl

    -- It reads back as the problem,
    pub problem_back : All FlatFits p.flats → problem_of (encode p c) ≡ p
    unfolding problem_of problem_in encode
    problem_back fits =
        ap₂ (problem_in (encode p c)) (flats_count F X (refutes c) (rows_of c) addressed.starts addressed.size (bodies p c))
        (implications_count F X (refutes c) (rows_of c) addressed.starts addressed.size (bodies p c))
        ∙ whole (encode p c)
        (rows_read flat_row flat_bytes length_flat FlatFits (encode p c) (flat_from (encode p c)) (λ f at more. flat_read_lem (encode p c) f at more) flat_start p.flats
        after_flats (record { left = 0; right = 0 }) fits from_flats)
        (rows_read implication_row implication_bytes length_implication (λ i. Unit {0}) (encode p c) (implication_from (encode p c)) (λ i at more. implication_read_lem (encode p c) i at more)
        (implication_start F) p.implications (p.goal ∷ claim_rows c) (record { a = 0; b = 0; c = 0 }) (units p.implications) from_implications)
        (byte_at (encode p c) bodies_start p.n after_count from_bodies)
        (byte_at (encode p c) (goal_start F X) p.goal (claim_rows c) from_goal)
      where
        units : (l : List Implication) → All (λ i. Unit {0}) l
        units [] = tt
        units (i ∷ l) = (tt, units l)

        whole : (s : List ℕ) → flats_in s F ≡ p.flats → implications_in s (implication_start F) X ≡ p.implications
            → get_or s bodies_start 0 ≡ p.n → get_or s (goal_start F X) 0 ≡ p.goal → problem_in s F X ≡ p
        whole s ef ei en eg =
            ap₂ {C = Problem} (λ (n g : ℕ). record { n = n; flats = flats_in s F; implications = implications_in s (implication_start F) X; goal = g }) en eg
            ∙ ap₂ {C = Problem} (λ (f : List Flat) (i : List Implication). record { n = p.n; flats = f; implications = i; goal = p.goal }) ef ei

    claim_read : (d : Claim) → claim_rows c ≡ claim_rows d → ClaimFits d → claim_in (encode p c) (claim_start F X) (refutes d) (rows_of d) ≡ d
    unfolding claim_in claim_rows refutes rows_of
    claim_read (valid S) e fits =
        ap valid (rows_read step_row step_bytes length_step (λ z. z.assumed < 256 ^ set_bytes) (encode p c) (step_from (encode p c)) (λ z at more. step_read_lem (encode p c) z at more) (claim_start F X) S []
        (record { number = 0; assumed = 0 }) fits (from_claim ∙ e ∙ sym (append-nil (each step_row S))))
    claim_read (refuted W) e fits =
        ap refuted (rows_read world_row set_bytes length_world (λ w. w < 256 ^ set_bytes) (encode p c) (world_from (encode p c)) (λ w at more. world_read_lem (encode p c) w at more) (claim_start F X) W []
        0 fits (from_claim ∙ e ∙ sym (append-nil (each world_row W))))

    -- and as the claim.
    pub claim_back : ClaimFits c → claim_of (encode p c) ≡ c
    unfolding claim_of encode
    claim_back fits =
        ap₂ (λ (f x : ℕ). claim_in (encode p c) (claim_start f x) (refuting (encode p c)) (claim_count (encode p c)))
        (flats_count F X (refutes c) (rows_of c) addressed.starts addressed.size (bodies p c)) (implications_count F X (refutes c) (rows_of c) addressed.starts addressed.size (bodies p c))
        ∙ ap₂ (claim_in (encode p c) (claim_start F X)) (refuting_is F X (refutes c) (rows_of c) addressed.starts addressed.size (bodies p c))
        (claim_count_lem F X (refutes c) (rows_of c) addressed.starts addressed.size (bodies p c))
        ∙ claim_read c refl fits
