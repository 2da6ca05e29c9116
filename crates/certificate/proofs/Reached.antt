-- Every verdict of a book reached by calls makes a right problem and claim, so its certificate is accepted and reads back.
use mathlib.Core.List.{List, []}
use mathlib.Core.Option.{Option, none, some}
use mathlib.Core.Path.{◌≡◌, subst}
use Prim.Native.Nat.{ℕ, ◌^◌, ◌≤◌, ◌<◌}
use lib.Dec.{T, eqb, leb, eqb→eq, lt→ltb, le→leb}
use lib.ListN.{length}
use Rattle.atoms.proofs.Truth.{T_and, true_T, by_cond}
use Rattle.ipl.specs.Lists.{all, All}
use Rattle.ipl.specs.Range.{step_table, world_table, atom_or_bot, set_in_range}
use Rattle.ipl.specs.Search.{Step, Outcome, valid, refuted, refused, unfinished, search, step_in_range}
use Rattle.ipl.specs.Book.{Book, Call, opened, goal_refusal, answer, steps_after, after}
use Rattle.ipl.specs.Demand.{RowsWellFormed}
use Rattle.ipl.proofs.Lists.{All_all, All_map}
use Rattle.ipl.proofs.Range.{implication_below}
use Rattle.ipl.proofs.Steps.{right_steps_in_range}
use Rattle.ipl.proofs.Search.{OutcomeRight, search_right}
use Rattle.ipl.proofs.Limits.{Fits, search_fits}
use Rattle.ipl.proofs.Book.{Reached, goal_unrefused, opened_reached, after_reached}
use Rattle.certificate.specs.Certificate as certificate
use Rattle.certificate.specs.Certificate.{Claim, accepted}
use Rattle.certificate.specs.Format.{encode}
use Rattle.certificate.specs.Judge.{claim_in_range, in_range, judge}
use Rattle.certificate.specs.Written.{problem_of_book, claim_of_verdict}
use Rattle.certificate.specs.Accepted.{Right}
use Rattle.certificate.proofs.InRange.{range_of}
use Rattle.certificate.proofs.Acceptance.{encode_accepted}

-- ---- right claims

-- The claim of a verdict is right.
abbrev ClaimMade : Book → ℕ → Option Claim → Type 0
ClaimMade k g none = Unit {0}
ClaimMade k g (some c) = Right (problem_of_book k g) c

module _ (k : Book) (g : ℕ) (w : RowsWellFormed k.n k.flats k.implications k.steps) (goal : T (atom_or_bot k.n g)) where
  ranged : (c : Claim) → T (claim_in_range k.n (length k.implications) c) → T (in_range (problem_of_book k g) c)
  ranged c t = range_of (problem_of_book k g) c (record {
    some = w.some;
    few = w.few;
    flat_count_small = w.flat_count_small;
    implication_count_small = w.implication_count_small;
    goal = goal;
    flats = w.flats;
    implications = w.implications;
    claim = t;
  })

  steps_in_range_lem : (S : List Step) → length S ≤ step_table → All (λ s. T (step_in_range k.n (length k.implications) s)) S
      → T (claim_in_range k.n (length k.implications) (certificate.valid S))
  unfolding claim_in_range
  steps_in_range_lem S few h =
      let test = step_in_range k.n (length k.implications) in
      T_and (leb (length S) step_table) (all test S) (le→leb (length S) step_table few) (All_all test S h)

  worlds_in_range_lem : (W : List ℕ) → length W ≤ world_table → All (λ M. M < 2 ^ k.n) W → T (claim_in_range k.n (length k.implications) (certificate.refuted W))
  unfolding claim_in_range set_in_range
  worlds_in_range_lem W few h =
      T_and (leb (length W) world_table) (all (set_in_range k.n) W) (le→leb (length W) world_table few)
      (All_all (set_in_range k.n) W (All_map W (λ M b. lt→ltb M (2 ^ k.n) b) h))

  outcome_right : (o : Outcome) → OutcomeRight k.n k.flats k.implications g k.steps o → Fits o → ClaimMade k g (claim_of_verdict k o)
  unfolding claim_of_verdict steps_after
  outcome_right (valid s) h f = record {
    range = ranged (certificate.valid s.steps)
        (steps_in_range_lem s.steps f.0 (right_steps_in_range k.n k.flats k.implications [] s.steps h.derivation.steps));
    closings = w.closings;
    claim = h.derivation;
  }
  outcome_right (refuted s) h f = record {
    range = ranged (certificate.refuted s.worlds) (worlds_in_range_lem s.worlds f.0 h.below);
    closings = w.closings;
    claim = h.right;
  }
  outcome_right (refused number) h f = tt
  outcome_right unfinished h f = tt

-- Of every book reached, the verdict on any question.
pub reached_right : (k : Book) → Reached k → (g : ℕ) (c : Claim) → claim_of_verdict k (answer k g) ≡ some c → Right (problem_of_book k g) c
unfolding answer claim_of_verdict
reached_right k r g c e =
    let wf = r.rows.well_formed in
    let searched = search k.n k.flats k.implications g k.steps in
    subst (ClaimMade k g) e
    (by_cond (λ o. ClaimMade k g (claim_of_verdict k o)) (eqb (goal_refusal k g) 0) searched (refused (goal_refusal k g))
    (λ t. outcome_right k g wf (goal_unrefused k g (eqb→eq (goal_refusal k g) 0 (true_T t))) searched
    (search_right k.n k.flats k.implications g k.steps (All_map k.implications (implication_below k.n) wf.implications) wf.steps r.rows.witnessed)
    (search_fits k.n k.flats k.implications g k.steps wf.step_count))
    (λ t. tt))

-- "Every sheet written from a session opened by us and changed only through its calls is accepted and reads back as the problem
-- and answer it came from": for every n, every list of calls and every question after it.
pub verdict_accepted : (n : ℕ) (cs : List Call) (g : ℕ) (c : Claim) → claim_of_verdict (after (opened n) cs) (answer (after (opened n) cs) g) ≡ some c
    → judge (encode (problem_of_book (after (opened n) cs) g) c) ≡ accepted (problem_of_book (after (opened n) cs) g) c
verdict_accepted n cs g c e =
    let k = after (opened n) cs in
    encode_accepted (problem_of_book k g) c (reached_right k (after_reached cs (opened n) (opened_reached n)) g c e)
