-- The judgement, refusal by refusal, and what must hold before the claim is judged.
use mathlib.Core.Bool.{true, false}
use mathlib.Core.List.{List}
use mathlib.Core.Option as math
use Rattle.std.proofs.Common.{Option, Some, None, Result, Err}
use Rattle.std.specs.Option.{ok_or}
use mathlib.Core.Path.{◌≡◌, refl, ap, ◌∙◌, subst}
use Prim.Native.Nat.{ℕ, ◌+◌, ◌≤◌}
use native.Mathlib.Omega.{arith}
use lib.Dec.{T, leb, leb→le}
use lib.ListN.{length, get_or}
use Rattle.atoms.specs.Words.{row_count}
use Rattle.atoms.proofs.Truth.{T_left}
use Rattle.atoms.proofs.Machine.{row_count_words, same_rows}
use Rattle.ipl.specs.Lists.{all}
use Rattle.ipl.specs.Range.{flat_table, step_table}
use Rattle.ipl.specs.Search.{step_in_range}
use Rattle.certificate.specs.Certificate.{Problem, Claim, refused}
use Rattle.certificate.specs.Format.{bodies_start, claim_start}
use Rattle.certificate.specs.Layout.{laid_out, problem_in, claim_in, problem_of, claim_of}
use Rattle.certificate.specs.Judge.{claim_in_range, in_range, all_closed, wrong_place, judge_claim, judge_read, judge}
use Rattle.certificate.specs.Checked.{judgement_of, SheetOf, problem_by, claim_by, steps_by, ContentsRead, Ranged, FlatsLoaded, StepsReady, WorldsReady}
use Rattle.certificate.specs.declared.Contents.{Contents}
use Rattle.certificate.specs.declared.fault.Fault.{Fault}
use Rattle.certificate.specs.declared.sheet.Sheet.{Sheet}
use Rattle.certificate.proofs.InRange.{range_parts}
use Rattle.certificate.proofs.Tables.{flats_length, steps_length}

-- ---- the refusals in order

pub unlaid : (s : List ℕ) → laid_out s ≡ false → refused 13 0 ≡ judge s
unfolding judge
unlaid s e = rw e refl

pub laid : (s : List ℕ) (k : Contents) → ContentsRead s (length s) k → judge_read (problem_by s k) (claim_by s k) ≡ judge s
unfolding judge problem_of claim_of
laid s k r = rw r.laid (ap (λ (z : Contents). judge_read (problem_by s z) (claim_by s z)) r.contents_are)

-- The bodies of a certificate that keeps the layout.
pub laid_sheet : (s : List ℕ) (sheet : Sheet) → SheetOf s sheet → (r : Result Contents Fault)
    → judgement_of sheet.bytes.now r ≡ judge_read (problem_by sheet.bytes.now sheet.contents) (claim_by sheet.bytes.now sheet.contents) → judgement_of s r ≡ judge s
laid_sheet s sheet h r e =
    subst (λ z. judgement_of z r ≡ judge_read (problem_by z sheet.contents) (claim_by z sheet.contents)) h.same e ∙ laid s sheet.contents h.contents

-- Without contents, the fault is the one given.
pub fault_given : {A : Type 0} (o : Option A) (e f : Fault) → o ≡ None → ◌≡◌ {A = Result A Fault} (Err e) (ok_or o f) → e ≡ f
fault_given None e f h q = cc
fault_given (Some x) e f h q = cc

module _ (p : Problem) (c : Claim) where
  pub unranged : in_range p c ≡ false → refused 14 0 ≡ judge_read p c
  unfolding judge_read
  unranged e = rw e refl

  module _ (range : in_range p c ≡ true) where
    pub unclosed : all_closed p ≡ false → refused 15 0 ≡ judge_read p c
    unfolding judge_read
    unclosed e = rw (range, e) refl

    pub claimed : all_closed p ≡ true → (o : math.Option ℕ) → o ≡ wrong_place p c → judge_claim p c o ≡ judge_read p c
    unfolding judge_read
    claimed e o w = rw (range, e, ← w) refl

-- ---- the tables before the claim is judged

module _ (s : List ℕ) (k : Contents) (ranged : Ranged s k) where
  flats_few : k.flats ≤ flat_table
  unfolding problem_in
  flats_few = omega (arith, flats_length s k.flats, (range_parts (problem_by s k) (claim_by s k) ranged.ranged).flat_count_small)

  -- A table of this many words has a row for each flat clause.
  pub flats_fit : (t : List ℕ) (words : ℕ) → length t ≡ words → flat_table ≤ words → k.flats ≤ row_count t
  flats_fit t words e h = omega (arith, row_count_words t words e, flats_few)

  module _ (l0 left r0 right : List ℕ) (h : FlatsLoaded s k.flats l0 r0 left right) where
    pub worlds_ready : k.refuting ≡ true → WorldsReady s k left right
    worlds_ready e = record { ranged = ranged; refutes = e; loaded = h.loaded }

    steps_few : k.refuting ≡ false → k.rows ≤ step_table
    unfolding claim_in_range claim_in problem_in
    steps_few e =
        let n = get_or s bodies_start 0 in
        let m = length (problem_by s k).implications in
        let start = claim_start k.flats k.implications in
        let t : T (claim_in_range n m (claim_in s start false k.rows)) =
        subst (λ z. T (claim_in_range n m (claim_in s start z k.rows))) e (range_parts (problem_by s k) (claim_by s k) ranged.ranged).claim in
        omega (
          arith,
          steps_length s start k.rows,
          leb→le (length (steps_by s k)) step_table (T_left (leb (length (steps_by s k)) step_table) (all (step_in_range n m) (steps_by s k)) t),
        )

    pub steps_ready : k.refuting ≡ false → length l0 ≡ flat_table + step_table → length r0 ≡ flat_table + step_table → StepsReady s k left right
    steps_ready e el er =
        let few = steps_few e in record {
          ranged = ranged;
          derives = e;
          room_left = omega (arith, flats_few, same_rows left l0 h.size_left, row_count_words l0 (flat_table + step_table) el);
          room_right = omega (arith, flats_few, same_rows right r0 h.size_right, row_count_words r0 (flat_table + step_table) er);
          loaded = h.loaded;
        }
