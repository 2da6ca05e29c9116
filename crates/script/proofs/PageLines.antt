-- What is printed of a page is what the book's entries are printed as; and it is not too long.
use mathlib.Core.List.{List, [], ◌∷◌, ◌++◌, append-nil, append_assoc}
use mathlib.Core.Logic.{inl, inr}
use mathlib.Core.Option.{Option, none as nothing, some}
use mathlib.Core.Path.{◌≡◌, refl, sym, ap, ap₂, ◌∙◌, subst}
use Prim.Native.Nat.{ℕ, suc, ◌+◌, ◌*◌, ◌^◌, ◌≤◌, ◌<◌}
use Prim.Native.String.{String}
use native.Mathlib.Decide.{dec_le}
use native.Mathlib.Omega.{arith}
use lib.ListN.{length, get_or, take, length-append}
use lib.Seq.{length-take-le, take-suc}
use Rattle.ipl.specs.Lists.{All}
use Rattle.ipl.specs.Range.{world_table}
use Rattle.ipl.specs.Search.{Outcome, valid, refuted, refused, unfinished}
use Rattle.ipl.specs.Page.{Found, earliest, Entry, searched, refuted_by, found_by}
use Rattle.ipl.specs.Book.{Book, goal_refusal, answer, entry_by, after_entry, entries_from}
use Rattle.ipl.proofs.Lists.{All_append}
use Rattle.ipl.proofs.Search.{OutcomeRight}
use Rattle.ipl.proofs.Limits.{Fits, Ended}
use Rattle.ipl.proofs.Page.{earliest_found, entry_kept}
use Rattle.ipl.proofs.Book.{Reached, answer_right, goal_ended, goal_reached}
use Rattle.prover.specs.Demand.{RecordIs, RecordsAre, none, one_more}
use Rattle.prover.specs.declared.GoalAnswer.{GoalAnswer}
use Rattle.prover.specs.declared.GoalRecord.{GoalRecord}
use Rattle.prover.proofs.Answers.{answer_refused}
use Rattle.certificate.specs.Format.{each}
use Rattle.text.specs.Text.{ascii, labelled}
use Rattle.text.proofs.Lengths.{labelled_length}
use Rattle.report.specs.Report.{world_line}
use Rattle.report.proofs.Fitting.{goal_number, worlds_length}
use Rattle.script.specs.State.{figured_line, outcome_lines, entry_lines, entries_lines}
use Rattle.script.specs.Answer.{answer_lines, record_lines, records_lines}

-- ---- record by record

-- The lines of the first records, and those of one more.
lines_snoc : (i : ℕ) (ys : List GoalRecord) (y : GoalRecord) → records_lines i (ys ++ (y ∷ [])) ≡ records_lines i ys ++ record_lines (i + length ys) y
lines_snoc i [] y = append-nil (record_lines i y) ∙ ap (λ (j : ℕ). record_lines j y) (omega arith)
lines_snoc i (x ∷ ys) y =
    ap (λ (l : List ℕ). record_lines i x ++ l) (lines_snoc (suc i) ys y ∙ ap (λ (j : ℕ). records_lines (suc i) ys ++ record_lines j y) (omega arith))
    ∙ sym (append_assoc (record_lines i x) (records_lines (suc i) ys) (record_lines (i + length (x ∷ ys)) y))

pub lines_next : (rows : List GoalRecord) (i : ℕ) (d : GoalRecord) → i < length rows
    → records_lines 0 (take i rows) ++ record_lines i (get_or rows i d) ≡ records_lines 0 (take (i + 1) rows)
lines_next rows i d l =
    let one_more : i + 1 ≡ suc i = omega arith in
    let place : 0 + length (take i rows) ≡ i = omega (arith, length-take-le i rows (omega arith)) in
    sym (rw (one_more, take-suc rows i d l) (lines_snoc 0 (take i rows) (get_or rows i d)
    ∙ ap (λ (j : ℕ). records_lines 0 (take i rows) ++ record_lines j (get_or rows i d)) place))

-- ---- records and entries

record_lines_lem : (i : ℕ) (e : Entry) (x y : GoalRecord) → RecordIs e x y → record_lines i y ≡ entry_lines i e
record_lines_lem i (searched (valid end)) x y h = ap (record_lines i) h
record_lines_lem i (searched (refuted end)) x y (same, answer, worlds) =
    ap (λ (a : GoalAnswer). answer_lines i a y.worlds) answer ∙ ap (λ (W : List ℕ). figured_line i " refuted " (length end.worlds) ++ each world_line W) worlds
record_lines_lem i (searched (refused number)) x y (e, is, h) = ap (record_lines i) h ∙ ap (figured_line i " refused ") is
record_lines_lem i (searched unfinished) x y h = absurd h
record_lines_lem i (refuted_by j) x y h = ap (record_lines i) h

pub records_lines_lem : {es : List Entry} {xs ys : List GoalRecord} (i : ℕ) → RecordsAre es xs ys → records_lines i ys ≡ entries_lines i es
records_lines_lem i none = refl
records_lines_lem i (one_more {e} {x} {y} h rest) = ap₂ (λ (l m : List ℕ). l ++ m) (record_lines_lem i e x y h) (records_lines_lem (suc i) rest)

-- ---- how long they are

-- A line of a goal, and the most bytes of a goal's lines.
abbrev goal_line : ℕ
goal_line = 60

abbrev pub most_of_goal : ℕ
most_of_goal = goal_line + 30 * world_table

-- A number of at most 20 digits.
abbrev Short : ℕ → Type 0
Short x = x < 10 ^ 20

figured_length : (i : ℕ) (label : String) (figure : ℕ) → Short i → Short figure → length (ascii label) ≤ 12 → length (figured_line i label figure) ≤ goal_line
unfolding ascii
figured_length i label figure hi hf hl =
    omega (
      arith,
      hl,
      length-append (labelled "goal " i ++ labelled label figure) (ascii "\n"),
      length-append (labelled "goal " i) (labelled label figure),
      labelled_length "goal " 19 i hi,
      labelled_length label 19 figure hf,
    )

-- The number of a refusal is small.
abbrev SmallNumber : Outcome → Type 0
SmallNumber (valid end) = Unit {0}
SmallNumber (refuted end) = Unit {0}
SmallNumber (refused number) = number ≤ 12
SmallNumber unfinished = Unit {0}

module _ (k : Book) (g : ℕ) (r : Reached k) where
  ended_small : (o : Outcome) → Ended o → SmallNumber o
  ended_small (valid end) e = tt
  ended_small (refuted end) e = tt
  ended_small (refused number) (inl e) = omega arith
  ended_small (refused number) (inr e) = omega arith
  ended_small unfinished e = tt

  answer_small : SmallNumber (answer k g)
  answer_small = elim (dec_le (goal_refusal k g) 0) [
    | yes l ↦ ended_small (answer k g) (goal_ended k g r (omega arith))
    | no l ↦ rw (answer_refused k g (λ z. omega arith)) (omega (arith, goal_number k g))
  ]

  outcome_length : (i : ℕ) → Short i → (o : Outcome) → OutcomeRight k.n k.flats k.implications g k.steps o → Fits o → SmallNumber o → length (outcome_lines i o) ≤ most_of_goal
  unfolding ascii
  outcome_length i hi (valid end) right fits small = omega (arith, figured_length i " valid " (length end.steps) hi (omega (arith, fits.0)) (omega arith))
  outcome_length i hi (refuted end) right fits small =
      omega (
        arith,
        fits.0,
        length-append (figured_line i " refuted " (length end.worlds)) (each world_line end.worlds),
        figured_length i " refuted " (length end.worlds) hi (omega (arith, fits.0)) (omega arith),
        worlds_length k.n end.worlds r.rows.well_formed.few right.below,
      )
  outcome_length i hi (refused number) right fits small = omega (arith, figured_length i " refused " number hi (omega (arith, small)) (omega arith))
  outcome_length i hi unfinished right fits small = omega arith

  entry_length : (i : ℕ) → Short i → (M : List Found) → All (λ m. Short m.place) M → (o : Option ℕ) → earliest g M ≡ o → length (entry_lines i (entry_by k g o)) ≤ most_of_goal
  unfolding ascii
  entry_length i hi M places nothing e = let right = answer_right k g r in outcome_length i hi (answer k g) right.0 right.1 answer_small
  entry_length i hi M places (some j) e =
      let found = earliest_found (λ m. Short m.place) g j M places e in
      omega (arith, figured_length i " refuted by " j hi (subst Short found.2 found.1) (omega arith))

-- The models found keep their places short.
found_short : (i : ℕ) → Short i → (e : Entry) → All (λ m. Short m.place) (found_by i e)
found_short i hi (searched (valid end)) = tt
found_short i hi (searched (refuted end)) = (hi, tt)
found_short i hi (searched (refused number)) = tt
found_short i hi (searched unfinished) = tt
found_short i hi (refuted_by j) = tt

pub entries_length : (gs : List ℕ) (k : Book) → Reached k → (M : List Found) → All (λ m. Short m.place) M → (i : ℕ) → Short (i + length gs)
    → length (entries_lines i (entries_from k M i gs)) ≤ most_of_goal * length gs
unfolding entries_from
entries_length [] k r M places i h = omega arith
entries_length (g ∷ gs) k r M places i h =
    let e = entry_by k g (earliest g M) in
    let hi : Short i = omega (arith, h) in
    let rest = entries_from (after_entry k e) (M ++ found_by i e) (suc i) gs in
    omega (
      arith,
      length-append (entry_lines i e) (entries_lines (suc i) rest),
      entry_length k g r i hi M places (earliest g M) refl,
      entries_length gs (after_entry k e) (entry_kept Reached goal_reached k g (earliest g M) r) (M ++ found_by i e)
          (All_append (λ m. Short m.place) M (found_by i e) places (found_short i hi e)) (suc i) (omega (arith, h)),
    )
