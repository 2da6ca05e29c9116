-- The judgement of a certificate by its beginning and its length.
use mathlib.Core.Bool.{false}
use mathlib.Core.List.{List, [], ◌∷◌, ◌++◌, append-nil}
use mathlib.Core.Logic.{◌⊎◌, inl, inr}
use mathlib.Core.Path.{◌≡◌, refl, sym, ap, ◌∙◌, subst}
use Prim.Native.Nat.{ℕ, ◌+◌, ◌-◌, ◌/◌, ◌≤◌, ◌<◌}
use native.Mathlib.Omega.{arith}
use lib.Dec.{T}
use Rattle.std.proofs.Common.{Result, Err}
use lib.ListN.{length, get_or, take, drop, length-append, length-drop, get_or-append}
use lib.Seq.{drop-append-le, take-append-le}
use Rattle.atoms.specs.Bytes.{value, number_at}
use Rattle.atoms.proofs.Truth.{T_false, true_T}
use Rattle.certificate.specs.Format.{entry_bytes, entry_start, bodies_start, claim_start, encoded_length, longest_accepted, implication_start, total_length}
use Rattle.certificate.specs.Layout.{rows_in, entry_right, refuting, flat_count, implication_count, claim_count, claim_laid, laid_in, laid_out, problem_in, problem_of, claim_of}
use Rattle.certificate.specs.Judge.{in_range, judge}
use Rattle.certificate.specs.Accepted.{layout, range}
use Rattle.certificate.specs.Checked.{judgement_of, BeginningChecked, ContentsRead}
use Rattle.certificate.specs.declared.Contents.{Contents}
use Rattle.certificate.specs.declared.fault.Fault.{Fault}
use Rattle.certificate.specs.declared.fault.Fault.TheVariants as fault
use Rattle.certificate.proofs.Tables.{flats_length, implications_length, claim_refutes, claim_rows_lem}
use Rattle.certificate.proofs.Entries.{laid_parts, laid_length}
use Rattle.certificate.proofs.InRange.{range_longest}
use Rattle.certificate.proofs.Acceptance.{refused_iff}

-- ---- the contents are in the beginning

module _ (s rest : List ℕ) (L : ℕ) (there : bodies_start ≤ length s) where
  byte_same : (at : ℕ) → at < bodies_start → get_or (s ++ rest) at 0 ≡ get_or s at 0
  byte_same at h = get_or-append s rest 0 at (omega arith)

  number_same : (at width : ℕ) → at + width ≤ bodies_start → number_at (s ++ rest) at width ≡ number_at s at width
  unfolding number_at
  number_same at width h =
      ap value (ap (take width) (drop-append-le at s rest (omega arith)) ∙ take-append-le width (drop at s) rest (omega (arith, length-drop at s)))

  rows_same : (at extra width : ℕ) → at + entry_bytes ≤ bodies_start → rows_in (s ++ rest) at extra width ≡ rows_in s at extra width
  unfolding rows_in
  rows_same at extra width h = ap (λ (z : ℕ). (z - extra) / width) (number_same (at + 5) 4 (omega arith))

  entry_same : (at kind start extra width : ℕ) → at + entry_bytes ≤ bodies_start → entry_right (s ++ rest) at kind start extra width ≡ entry_right s at kind start extra width
  unfolding entry_right
  entry_same at kind start extra width h =
      rw (byte_same at (omega arith), number_same (at + 1) 4 (omega arith), number_same (at + 5) 4 (omega arith), rows_same at extra width h) refl

  laid_same : laid_in (s ++ rest) L ≡ laid_in s L
  unfolding laid_in claim_laid flat_count implication_count refuting
  laid_same =
      let count : 0 < bodies_start = omega arith in
      let kind : entry_start 3 < bodies_start = omega arith in
      let first : entry_start 0 + entry_bytes ≤ bodies_start = omega arith in
      let second : entry_start 1 + entry_bytes ≤ bodies_start = omega arith in
      let third : entry_start 2 + entry_bytes ≤ bodies_start = omega arith in
      let last : entry_start 3 + entry_bytes ≤ bodies_start = omega arith in
      simp (byte_same, rows_same, entry_same) refl

-- ---- too long for any in range

length_read : (s : List ℕ) → encoded_length (problem_of s) (claim_of s) ≡ total_length (flat_count s) (implication_count s) (refuting s) (claim_count s)
unfolding encoded_length problem_of problem_in claim_of
length_read s =
    let F = flat_count s in
    let X = implication_count s in
    let at = claim_start F X in
    rw (flats_length s F, implications_length s (implication_start F) X, claim_refutes s at (refuting s) (claim_count s), claim_rows_lem s at (refuting s) (claim_count s)) refl

long_unranged : (s : List ℕ) → T (laid_out s) → longest_accepted < length s → in_range (problem_of s) (claim_of s) ≡ false
long_unranged s t h = T_false (in_range (problem_of s) (claim_of s)) (λ r.
    omega (arith, range_longest (problem_of s) (claim_of s) r, length_read s, laid_length s (length s) (laid_parts s (length s) t)))

-- ---- what is answered

nothing_left : (rest : List ℕ) → length rest ≡ 0 → rest ≡ []
nothing_left [] e = refl
nothing_left (x ∷ l) e = absurd (omega arith)

module _ (s : List ℕ) (more : ℕ) where
  pub beginning_whole : more ≡ 0 → (r : Result Contents Fault) → judgement_of s r ≡ judge s → BeginningChecked s more r
  beginning_whole e r h rest el room =
      subst (λ w. judgement_of w r ≡ judge w) (sym (ap (λ w. s ++ w) (nothing_left rest (el ∙ e)) ∙ append-nil s)) h

  module _ (unseen : more ≡ 0 → ⊥) where
    long : (rest : List ℕ) → length rest ≡ more → (more ≡ 0) ⊎ (longest_accepted ≤ length s) → longest_accepted ≤ length s
    long rest el (inl e) = absurd (unseen e)
    long rest el (inr h) = h

    -- The layout of all bytes, by those seen.
    laid_by : (rest : List ℕ) → length rest ≡ more → longest_accepted ≤ length s → laid_out (s ++ rest) ≡ laid_in s (length s + more)
    laid_by rest el h =
        ap (laid_in (s ++ rest)) (length-append s rest ∙ ap (λ (z : ℕ). length s + z) el) ∙ laid_same s rest (length s + more) (omega arith)

    pub beginning_unlaid : (bodies_start ≤ length s → laid_in s (length s + more) ≡ false) → BeginningChecked s more (Err fault.Layout)
    beginning_unlaid f rest el room =
        let h = long rest el room in
        sym ((refused_iff (s ++ rest) 13 0).1 (layout (laid_by rest el h ∙ f (omega arith))))

    pub beginning_long : (k : Contents) → ContentsRead s (length s + more) k → BeginningChecked s more (Err fault.Range)
    beginning_long k r rest el room =
        let h = long rest el room in
        let t = true_T (laid_by rest el h ∙ r.laid) in
        sym ((refused_iff (s ++ rest) 14 0).1 (range t (long_unranged (s ++ rest) t (omega (arith, length-append s rest, past)))))
      where
        past : 0 < more
        past = omega (arith, unseen)
