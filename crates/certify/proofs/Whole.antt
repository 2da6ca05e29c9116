-- A whole certificate of a session: its counts, its length, and its parts put one after the other.
use mathlib.Core.Bool.{Bool, true, false, cond, true≢false}
use mathlib.Core.List.{List, [], ◌∷◌, ◌++◌}
use mathlib.Core.Option.{some}
use mathlib.Core.Path.{◌≡◌, refl, sym, ap, ap₂, ◌∙◌, subst}
use Prim.Native.Nat.{ℕ, ◌+◌, ◌*◌, ◌≤◌, ◌<◌}
use native.Mathlib.Omega.{arith}
use lib.ListN.{length, length-append}
use borrow.Author.Tests.{le-leb, lt-leb}
use Rattle.atoms.specs.Words.{row_of}
use Rattle.atoms.specs.Bytes.{digits, put_at}
use Rattle.ipl.specs.Range.{step_table}
use Rattle.ipl.proofs.Lists.{tabulate_length}
use Rattle.prover.specs.State as S
use Rattle.prover.specs.State.{flats_of, implications_of, book}
use Rattle.prover.specs.InRange.{in_range}
use Rattle.prover.proofs.Sessions.{usable, few_flats, steps_count, few_worlds}
use Rattle.prover.proofs.Refusals.{clauses_length, implications_length}
use Rattle.prover.specs.declared.Held.{Held}
use Rattle.prover.specs.declared.Held.TheVariants as held
use Rattle.prover.specs.declared.Session.{Session}
use Rattle.certificate.specs.Certificate.{Problem, Claim}
use Rattle.certificate.specs.Format.{flat_bytes, implication_bytes, each, flat_row, implication_row, claim_rows, refutes, rows_of, claim_width}
use Rattle.certificate.specs.Format.{bodies_start, flat_start, implication_start, goal_start, claim_start, total_length, entry_row, contents, bodies, encode, encoded_length}
use Rattle.certificate.specs.Written.{problem_of_book}
use Rattle.certificate.specs.declared.Contents.{Contents}
use Rattle.certificate.proofs.Encoding.{length_each, length_flat, length_implication, length_claim, encode_length}
use Rattle.certify.specs.Held.{Certificate, bytes_of, length_of, claim_held, certificate_of, certificate_held}
use Rattle.certify.specs.Writing.{rows_held, contents_held}
use Rattle.certify.specs.Written.{WrittenAs, Written}
use Rattle.std.specs.Prelude.{Result, Ok, Err}
use Rattle.refusal.specs.declared.Refusal.{Refusal}
use Rattle.refusal.specs.declared.Refusal.TheVariants.{Range, NoRoom}
use Rattle.atoms.proofs.Bytes.{put_past, put_next}
use Rattle.certify.proofs.Parts.{part_next}

-- ---- counts

refutes_held : (s : Session) (r : Bool) → refutes (claim_held s r) ≡ r
unfolding refutes
refutes_held s true = refl
refutes_held s false = refl

rows_held_lem : (s : Session) (r : Bool) → rows_of (claim_held s r) ≡ rows_held s r
unfolding rows_of
rows_held_lem s true = tabulate_length (row_of s.worlds.sets) s.worlds.count
rows_held_lem s false = tabulate_length (S.step_row s.steps) s.steps.count

pub few_rows : (s : Session) → in_range s ≡ true → (r : Bool) → rows_held s r ≤ step_table
few_rows s h true = omega (arith, few_worlds s h)
few_rows s h false = (steps_count s h).0

pub contents_as : (s : Session) (r : Bool) (rows : ℕ) → rows ≡ rows_held s r
    → ◌≡◌ {A = Contents} (record { flats = s.flats.count; implications = s.implications.count; refuting = r; rows = rows }) (contents_held s r)
contents_as s r rows e = ap {B = Contents} (λ (z : ℕ). record { flats = s.flats.count; implications = s.implications.count; refuting = r; rows = z }) e

-- Counts made of a session are its own: what the bodies want of their room.
pub record Counted (s : Session) (k : Contents) : Type 0 where
  pub own : k ≡ contents_held s k.refuting
  pub flats_are : s.flats.count ≡ k.flats
  pub implications_are : s.implications.count ≡ k.implications
  pub claim_is : claim_width k.refuting * rows_held s k.refuting ≡ claim_width k.refuting * k.rows

pub counted : (s : Session) (r : Bool) (k : Contents) → k ≡ contents_held s r → Counted s k
counted s r k e = subst (Counted s) (sym e) (record { own = refl; flats_are = refl; implications_are = refl; claim_is = refl })

-- ---- the bodies, and the whole

module _ (s : Session) (g : ℕ) (r : Bool) (k : Contents) (same : k ≡ contents_held s r) where
  abbrev p : Problem
  p = problem_of_book (book s) g

  abbrev c : Claim
  c = claim_held s r

  abbrev flat_body : List ℕ
  flat_body = each flat_row (flats_of s.flats)

  abbrev implication_body : List ℕ
  implication_body = each implication_row (implications_of s.implications)

  abbrev contents_put : List ℕ
  contents_put = contents k.flats k.implications k.refuting k.rows

  abbrev whole : ℕ
  whole = length_of (certificate_of s g r)

  abbrev size : ℕ
  size = total_length k.flats k.implications k.refuting k.rows

  -- What is said of the counts of the problem and the claim is said of k.
  counts : {A : Type 0} (f : ℕ → ℕ → Bool → ℕ → A)
      → f (length p.flats) (length p.implications) (refutes c) (rows_of c) ≡ f k.flats k.implications k.refuting k.rows
  counts f =
      ap₂ (λ (n m : ℕ). f n m (refutes c) (rows_of c)) (clauses_length s.flats.left s.flats.right s.flats.count) (implications_length s)
      ∙ ap₂ (f s.flats.count s.implications.count) (refutes_held s r) (rows_held_lem s r)
      ∙ sym (ap (λ (z : Contents). f z.flats z.implications z.refuting z.rows) same)

  flats_length : length flat_body ≡ flat_bytes * k.flats
  flats_length = length_each flat_row flat_bytes length_flat (flats_of s.flats) ∙ counts (λ n m b R. flat_bytes * n)

  implication_length : length implication_body ≡ implication_bytes * k.implications
  implication_length =
      length_each implication_row implication_bytes length_implication (implications_of s.implications) ∙ counts (λ n m b R. implication_bytes * m)

  claim_length : length (claim_rows c) ≡ claim_width k.refuting * k.rows
  claim_length = length_claim c ∙ counts (λ n m b R. claim_width b * R)

  -- The bodies, one after the other.
  pub bodies_put : (b b1 b2 b3 b4 b5 : List ℕ) (at goal claim : ℕ) → size ≤ length b
      → at ≡ implication_start k.flats → goal ≡ goal_start k.flats k.implications → claim ≡ claim_start k.flats k.implications
      → b1 ≡ put_at b bodies_start (s.n ∷ []) → b2 ≡ put_at b1 flat_start flat_body → b3 ≡ put_at b2 at implication_body → b4 ≡ put_at b3 goal (g ∷ [])
      → b5 ≡ put_at b4 claim (claim_rows c) → b5 ≡ put_at b bodies_start (bodies p c)
  unfolding bodies
  bodies_put b b1 b2 b3 b4 b5 at goal claim h at-is goal_is claim_is e1 e2 e3 e4 e5 =
      let q2 = part_next bodies_start b b1 b2 (s.n ∷ []) flat_body flat_start (flat_bytes * k.flats) refl flats_length (omega arith) e1 e2 in
      let q3 = part_next bodies_start b b2 b3 _ implication_body at (implication_bytes * k.implications) (q2.1 ∙ sym at-is) implication_length (omega arith) q2.0 e3 in
      let q4 = part_next bodies_start b b3 b4 _ (g ∷ []) goal 1 (omega (arith, q3.1)) refl (omega arith) q3.0 e4 in
      (part_next bodies_start b b4 b5 _ (claim_rows c) claim (claim_width k.refuting * k.rows) (omega (arith, q4.1)) claim_length (omega arith) q4.0 e5).0

  encode_is : encode p c ≡ contents_put ++ bodies p c
  unfolding encode
  encode_is = ap (λ (l : List ℕ). l ++ bodies p c) (counts contents)

  length_contents : length contents_put ≡ bodies_start
  unfolding contents entry_row digits
  length_contents = refl

  pub length_counted : length_of (certificate_of s g r) ≡ size
  unfolding encoded_length
  length_counted = counts total_length

  length_held : length (encode p c) ≡ size
  length_held = encode_length p c ∙ length_counted

  -- 10: the buffer has fewer bytes.
  pub too_long : (b : List ℕ) (n : ℕ) → n ≡ size → length b < n → WrittenAs (some (certificate_of s g r)) b (Err NoRoom) b
  too_long b n n-is h =
      let more : length b < whole = omega (arith, length_counted) in
      record {
        answer = sym (ap (λ t. cond t (Ok whole) (Err NoRoom)) (lt-leb whole (length b) more));
        buffer = put_past b 0 (encode p c) (omega (arith, length_held));
      }

  -- The contents, then the bodies.
  pub whole_written : (b b1 b2 : List ℕ) (n : ℕ) → n ≡ size → n ≤ length b → b1 ≡ put_at b 0 contents_put
      → b2 ≡ put_at b1 bodies_start (bodies p (claim_held s k.refuting)) → WrittenAs (some (certificate_of s g r)) b (Ok n) b2
  whole_written b b1 b2 n n-is h e1 e2 =
      let own : k.refuting ≡ r = ap (λ (z : Contents). z.refuting) same in
      let put : b2 ≡ put_at b1 bodies_start (bodies p c) = e2 ∙ ap (λ (t : Bool). put_at b1 bodies_start (bodies p (claim_held s t))) own in
      let fits : whole ≤ length b = omega (arith, length_counted) in
      let room : bodies_start + length (bodies p c) ≤ length b = omega (arith, length_held, ap length encode_is, length-append contents_put (bodies p c), length_contents) in
      record {
        answer =
            ap Ok (n-is ∙ sym length_counted) ∙ sym (ap (λ t. cond t (Ok whole) (Err NoRoom)) (le-leb whole (length b) fits));
        buffer = put_next b b1 b2 0 bodies_start contents_put (bodies p c) (omega (arith, length_contents)) room e1 put ∙ ap (put_at b 0) (sym encode_is);
      }

-- ---- what the call says

pub refused_five : (s : Session) (before : List ℕ) → in_range s ≡ false → Written s before (Err Range) before
refused_five s before e = record { out_of_range = λ _. (refl, refl); written = λ h. absurd (true≢false (sym h ∙ e)) }

pub verdict_written : (s : Session) (before : List ℕ) (r : Result ℕ Refusal) (after : List ℕ) (v : Held) → in_range s ≡ true → s.held ≡ v → WrittenAs (certificate_held s v) before r after
    → Written s before r after
verdict_written s before r after v h e w = record {
  out_of_range = λ f. absurd (true≢false (sym h ∙ f));
  written = λ _. subst (λ (z : Held). WrittenAs (certificate_held s z) before r after) (sym e) w;
}

-- ---- how long it is

-- With every table full: 39 + 16 × 512 + 3 × 128 + 9 × 512 bytes.
certificate_short : (s : Session) → in_range s ≡ true → (g : ℕ) (r : Bool) → length (bytes_of (certificate_of s g r)) ≤ 13223
certificate_short s h g true =
    omega (arith, length_held s g true (contents_held s true) refl, few_flats s h, (usable s h).count, few_rows s h true)
certificate_short s h g false =
    omega (arith, length_held s g false (contents_held s false) refl, few_flats s h, (usable s h).count, few_rows s h false)

pub held_short : (s : Session) → in_range s ≡ true → (v : Held) (x : Certificate) → certificate_held s v ≡ some x → length (bytes_of x) ≤ 13223
held_short s h held.Nothing x e = let z : ◌≡◌ {A = ℕ} 0 1 = cc in absurd (omega arith)
held_short s h (held.Valid g) x e = let same : certificate_of s g false ≡ x = cc in subst (λ y. length (bytes_of y) ≤ 13223) same (certificate_short s h g false)
held_short s h (held.Refuted g) x e = let same : certificate_of s g true ≡ x = cc in subst (λ y. length (bytes_of y) ≤ 13223) same (certificate_short s h g true)
