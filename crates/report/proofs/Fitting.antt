-- The report of a text is never longer than what is written.
use mathlib.Core.List.{List, [], ◌∷◌, ◌++◌}
use mathlib.Core.Logic.{inl, inr}
use mathlib.Core.Path.{◌≡◌, ap, subst}
use Prim.Native.Nat.{ℕ, ◌+◌, ◌*◌, ◌^◌, ◌≤◌, ◌<◌}
use native.Mathlib.Decide.{dec_le}
use native.Mathlib.Omega.{arith}
use lib.Dec.{T, eqb}
use lib.ListN.{length, length-append}
use lib.Pow.{pow_mono}
use Rattle.atoms.specs.Sets.{limit}
use Rattle.atoms.proofs.Machine.{limit_small, set_digits}
use Rattle.atoms.proofs.Truth.{by_cond}
use Rattle.ipl.specs.Lists.{All}
use Rattle.ipl.specs.Range.{atom_or_bot}
use Rattle.ipl.specs.Clause.{Flat, Implication}
use Rattle.ipl.specs.Claim.{StepsRight}
use Rattle.ipl.specs.Search.{Step, Outcome, valid, refuted, refused, unfinished}
use Rattle.ipl.specs.Book.{Book, goal_refusal, answer}
use Rattle.ipl.proofs.Lists.{All_map}
use Rattle.ipl.proofs.Search.{OutcomeRight}
use Rattle.ipl.proofs.Limits.{Fits, Ended}
use Rattle.ipl.proofs.Book.{Reached, goal_taken, answer_right, goal_ended}
use Rattle.prover.specs.Work.{staying}
use Rattle.prover.proofs.Answers.{answer_refused}
use Rattle.ipl.specs.Formula.{Formula}
use Rattle.syntax.specs.Nodes.{nodes, named}
use Rattle.syntax.specs.Refusal as text
use Rattle.syntax.specs.Judge as judgement
use Rattle.syntax.specs.Judge.{Judgement, judge, Right}
use Rattle.syntax.proofs.Judge.{judge_right}
use Rattle.clausify.specs.Naming.{text_book, goal_of}
use Rattle.clausify.specs.Calls.{SettledAs}
use Rattle.clausify.specs.declared.Settled.{Settled}
use Rattle.clausify.proofs.TextBook.{text_book_is, goal_in_range, text_reached}
use Rattle.certificate.specs.Format.{each, contents, encode}
use Rattle.certificate.specs.Written.{claim_of_verdict}
use Rattle.text.specs.Text.{ascii, labelled}
use Rattle.report.specs.Report.{text_refusal, figures, step_line, world_line, valid_report, refuted_report, report_of}
use Rattle.report.specs.Printed.{printed_end, printed_as, printed, sheet_bytes, sheet_as, sheet}
use Rattle.text.specs.Output.{longest, Reported, Gives}
use Rattle.text.proofs.Appending.{reported_gives}
use Rattle.text.proofs.Lengths.{labelled_length, refusal_length}
use Rattle.report.proofs.Printed.{report_printed}

-- ---- lines

figures_length : (n q k : ℕ) → n < 10 ^ 20 → q < 10 ^ 20 → k < 10 ^ 20 → length (figures n q k) ≤ 87
unfolding figures ascii
figures_length n q k hn hq hk =
    omega (
      arith,
      length-append (labelled "atoms " n ++ labelled " questions " q ++ labelled " learned " k) (ascii "\n"),
      length-append (labelled "atoms " n ++ labelled " questions " q) (labelled " learned " k),
      length-append (labelled "atoms " n) (labelled " questions " q),
      labelled_length "atoms " 19 n hn,
      labelled_length " questions " 19 q hq,
      labelled_length " learned " 19 k hk,
    )

step_length : (s : Step) → s.number < 10 ^ 3 → s.assumed < 10 ^ 20 → length (step_line s) ≤ 30
unfolding step_line ascii
step_length s hn ha =
    omega (
      arith,
      length-append (labelled "step " s.number ++ labelled " " s.assumed) (ascii "\n"),
      length-append (labelled "step " s.number) (labelled " " s.assumed),
      labelled_length "step " 2 s.number hn,
      labelled_length " " 19 s.assumed ha,
    )

world_length : (w : ℕ) → w < 10 ^ 20 → length (world_line w) ≤ 30
unfolding world_line ascii
world_length w h = omega (arith, length-append (labelled "world " w) (ascii "\n"), labelled_length "world " 19 w h)

each_length : {A : Type 0} (line : A → List ℕ) (l : List A) → All (λ x. length (line x) ≤ 30) l → length (each line l) ≤ 30 * length l
unfolding each
each_length line [] h = omega arith
each_length line (x ∷ l) h = omega (arith, length-append (line x) (each line l), each_length line l h.1, h.0)

-- ---- the report

-- A set has at most 20 digits.
set_short : (n x : ℕ) → n ≤ limit → x < 2 ^ n → x < 10 ^ 20
set_short n x h k = omega (arith, pow_mono {i = n} {j = limit} h, set_digits)

pub worlds_length : (n : ℕ) (W : List ℕ) → n ≤ limit → All (λ w. w < 2 ^ n) W → length (each world_line W) ≤ 30 * length W
worlds_length n W h below = each_length world_line W (All_map W (λ w k. world_length w (set_short n w h k)) below)

steps_length : (n : ℕ) (F : List Flat) (X : List Implication) (P S : List Step) → n ≤ limit → length X ≤ 128 → StepsRight n F X P S
    → All (λ s. length (step_line s) ≤ 30) S
steps_length n F X P [] h k r = tt
steps_length n F X P (s ∷ S) h k r =
    (step_length s (omega (arith, r.0.number)) (set_short n s.assumed h r.0.below), steps_length n F X (P ++ (s ∷ [])) S h k r.1)

search_refusal_short : (number : ℕ) → Ended (refused number) → length (text_refusal number 0) ≤ 19
search_refusal_short number (inl e) = omega (arith, refusal_length (eqb number 3) 1 3 number 0 (omega arith) (omega arith))
search_refusal_short number (inr e) = omega (arith, refusal_length (eqb number 3) 1 3 number 0 (omega arith) (omega arith))

pub goal_number : (k : Book) (g : ℕ) → goal_refusal k g ≤ 6
unfolding goal_refusal
goal_number k g = by_cond (λ (x : ℕ). x ≤ 6) (atom_or_bot k.n g) 0 6 (λ _. omega arith) (λ _. omega arith)

module _ (k : Book) (g before : ℕ) (r : Reached k) where
  few : k.n < 10 ^ 20
  few = omega (arith, r.rows.well_formed.few, limit_small)

  outcome_fits : (o : Outcome) → OutcomeRight k.n k.flats k.implications g k.steps o → Fits o → Ended o → length (printed_end k.n before o) ≤ longest
  unfolding printed_end valid_report refuted_report ascii longest
  outcome_fits (valid end) right fits e =
      let q = staying (before + end.questions) in
      let lines = steps_length k.n k.flats k.implications [] end.steps r.rows.well_formed.few r.rows.well_formed.implication_count_small right.grown.steps in
      omega (
        arith,
        length-append (ascii "valid\n" ++ figures k.n q (length end.steps)) (each step_line end.steps),
        length-append (ascii "valid\n") (figures k.n q (length end.steps)),
        figures_length k.n q (length end.steps) few (omega arith) (omega (arith, fits.0)),
        each_length step_line end.steps lines,
        fits.0,
      )
  outcome_fits (refuted end) right fits e =
      let q = staying (before + end.questions) in
      omega (
        arith,
        length-append (ascii "refuted\n" ++ figures k.n q (length end.steps)) (each world_line end.worlds),
        length-append (ascii "refuted\n") (figures k.n q (length end.steps)),
        figures_length k.n q (length end.steps) few (omega arith) (omega (arith, fits.1)),
        worlds_length k.n end.worlds r.rows.well_formed.few right.below,
        fits.0,
      )
  outcome_fits (refused number) right fits e = omega (arith, search_refusal_short number e)
  outcome_fits unfinished right fits e = absurd e

  -- A goal out of range is refused at once.
  pub answer_fits : length (printed_end k.n before (answer k g)) ≤ longest
  unfolding printed_end longest
  answer_fits = elim (dec_le (goal_refusal k g) 0) [
    | yes l ↦
        let right = answer_right k g r in
        outcome_fits (answer k g) right.0 right.1 (goal_ended k g r (omega arith))
    | no l ↦
        rw (answer_refused k g (λ z. omega arith))
        (omega (arith, goal_number k g, refusal_length (eqb (goal_refusal k g) 3) 1 3 (goal_refusal k g) 0 (omega (arith, goal_number k g)) (omega arith)))
  ]

text_ended : (t : Formula) → named (nodes t).table ≤ 64 → Ended (answer (text_book t) (goal_of t))
text_ended t few =
    let goal_ok : T (atom_or_bot (text_book t).n (goal_of t)) = rw (ap (λ (b : Book). b.n) (text_book_is t few)) (goal_in_range t few) in
    goal_ended (text_book t) (goal_of t) (text_reached t) (goal_taken (text_book t) (goal_of t) goal_ok)

-- The place of a refused text is at most its length, which is at most 4,096 where the place is not 0.
refused_fits : (s : List ℕ) (number place : ℕ) → text.Refused s number place → (number ≤ 4) × (place ≤ 4096)
refused_fits s number place (text.line_1 h) = (omega arith, omega arith)
refused_fits s number place (text.line_2 h k) = (omega arith, omega arith)
refused_fits s number place (text.line_3 h k l m) =
    let short : 4096 < length s → ⊥ = λ j. h (inr j) in
    (omega arith, omega (arith, m.within))
refused_fits s number place (text.line_4 h k l m) = (omega arith, omega arith)

pub text_refusal_short : (s : List ℕ) (number place : ℕ) → text.Refused s number place → length (text_refusal number place) ≤ 19
text_refusal_short s number place h =
    let b = refused_fits s number place h in
    omega (arith, refusal_length (eqb number 3) 1 3 number place (omega (arith, b.0)) (omega (arith, b.1)))

pub printed_fits : (s : List ℕ) → length (printed s) ≤ longest
unfolding printed printed_as longest
printed_fits s = by_judgement (judge s) (judge_right s)
  where
    by_judgement : (j : Judgement) → Right s j → length (printed_as j) ≤ longest
    by_judgement (judgement.refused number place) h = omega (arith, text_refusal_short s number place h)
    by_judgement (judgement.accepted t) h = answer_fits (text_book t) (goal_of t) 0 (text_reached t)

-- So it is given whole, or the output is too short.
pub report_given : {entry exit : List ℕ} {n : ℕ} (s : List ℕ) (r : Settled) → SettledAs (judge s) r → Reported (report_of r) entry exit n → Gives (printed s) entry exit n
report_given {entry} {exit} {n} s r h w =
    reported_gives (printed_fits s) (subst (λ (T : List ℕ). Reported T entry exit n) (report_printed s r h) w)

-- Where there is no sheet, what is printed is the line of a refusal.
pub no_sheet_short : (s : List ℕ) → sheet s ≡ [] → length (printed s) ≤ 19
unfolding printed printed_as printed_end sheet sheet_as sheet_bytes claim_of_verdict encode contents
no_sheet_short s = by_judgement (judge s) (judge_right s)
  where
    no_claim : (k : Book) (g : ℕ) (o : Outcome) → Ended o → sheet_bytes k g (claim_of_verdict k o) ≡ [] → length (printed_end k.n 0 o) ≤ 19
    no_claim k g (valid end) e n = let z : ◌≡◌ {A = ℕ} 0 1 = cc in absurd (omega arith)
    no_claim k g (refuted end) e n = let z : ◌≡◌ {A = ℕ} 0 1 = cc in absurd (omega arith)
    no_claim k g (refused number) e n = search_refusal_short number e
    no_claim k g unfinished e n = absurd e

    by_judgement : (j : Judgement) → Right s j → sheet_as j ≡ [] → length (printed_as j) ≤ 19
    by_judgement (judgement.refused number place) h n = text_refusal_short s number place h
    by_judgement (judgement.accepted t) h n = no_claim (text_book t) (goal_of t) (answer (text_book t) (goal_of t)) (text_ended t (omega (arith, h.size_right))) n
