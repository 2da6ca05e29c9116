-- What the code prints is what the definitions print, from the text's bytes.
use mathlib.Core.List.{List}
use mathlib.Core.Path.{◌≡◌, refl, sym, ap, ap₂, ◌∙◌, subst}
use Prim.Native.Nat.{ℕ, ◌+◌, ◌<◌}
use native.Mathlib.Omega.{arith}
use lib.Dec.{T}
use lib.ListN.{length}
use Rattle.ipl.specs.Search.{State, Outcome, valid, refuted, refused, unfinished}
use Rattle.ipl.specs.Lists.{tabulate}
use Rattle.ipl.specs.Authors.{author_table, program}
use Rattle.ipl.specs.Book.{Book, answer}
use Rattle.ipl.specs.Demand.{is_valid, is_refuted, is_verdict}
use Rattle.ipl.proofs.Lists.{tabulate_length}
use Rattle.ipl.proofs.Book.{Reached}
use Rattle.prover.specs.State.{book}
use Rattle.prover.specs.Work.{staying, work_at, works_of, none_done}
use Rattle.prover.specs.Calls.{Searched, Asked, AskedAs}
use Rattle.prover.specs.declared.Work.{Work}
use Rattle.prover.specs.declared.Session.{Session}
use Rattle.prover.specs.Told.{Told, Answered, answered}
use Rattle.prover.proofs.Works.{row_decided}
use Rattle.prover.proofs.Keeping.{nothing_in_range, asked_as}
use Rattle.ipl.specs.Formula.{Formula}
use Rattle.syntax.specs.Judge as judgement
use Rattle.syntax.specs.Judge.{Judgement, judge}
use Rattle.clausify.specs.Naming.{text_book, goal_of}
use Rattle.clausify.specs.Calls.{Holds, SettledAs}
use Rattle.clausify.specs.declared.Settled.{Settled}
use Rattle.clausify.proofs.TextBook.{text_reached}
use Rattle.report.specs.Report.{valid_report, refuted_report, report_by, report_of}
use Rattle.report.specs.Printed.{printed_end, printed_as, printed}

-- The report of an answer to a question of author w is that of the search's outcome.
module _ (s : Session) (w g : ℕ) (r : Answered) where
  abbrev questions_of : Session → ℕ
  questions_of s = (work_at (works_of s.authors) w).questions

  counted : (end : State) → w < author_table → Searched s w end r.session → questions_of r.session ≡ staying (questions_of s + end.questions)
  counted end known l =
      ap (λ (W : List Work). (work_at W w).questions) l.work
      ∙ ap (λ (v : Work). v.questions) (row_decided (works_of s.authors) _ w refl (rw (tabulate_length (work_at s.authors.rows) author_table) known))

  pub answer_printed : (o : Outcome) → (T (is_verdict o) → w < author_table) → AskedAs s w g o r → report_by r.verdict r.session w ≡ printed_end s.n (questions_of s) o
  unfolding printed_end is_valid is_refuted
  answer_printed (valid end) known a =
      ap (λ (v : Told). report_by v r.session w) a.0.verdict
      ∙ ap₂ (λ (k : Book) (q : ℕ). valid_report k.n q k.steps) a.1.holds (counted end (known tt) a.1)
  answer_printed (refuted end) known a =
      ap (λ (v : Told). report_by v r.session w) a.0.verdict
      ∙ ap₂ (λ (k : Book) (W : List ℕ). refuted_report k.n (questions_of r.session) (length k.steps) W) a.1.holds a.0.shows
      ∙ ap (λ (q : ℕ). refuted_report s.n q (length end.steps) end.worlds) (counted end (known tt) a.1)
  answer_printed (refused number) known a = ap (λ (v : Told). report_by v r.session w) a.0
  answer_printed unfinished known a = absurd a.0

settled_printed : (t : Formula) (r : Settled) (s : Session) → Holds t s r.goal → Asked s program r.goal (answered r.verdict r.session)
    → report_of r ≡ printed_end (text_book t).n 0 (answer (text_book t) (goal_of t))
unfolding tabulate
settled_printed t r s holds a =
    let x : Answered = answered r.verdict r.session in
    let reached : Reached (book s) = subst Reached (sym holds.clauses) (text_reached t) in
    answer_printed s program r.goal x (answer (book s) r.goal) (λ _. omega arith)
    (asked_as s (nothing_in_range none_done s reached holds.nothing) reached program r.goal x a)
    ∙ ap (λ (W : List Work). printed_end s.n (work_at W program).questions (answer (book s) r.goal)) holds.nothing.work
    ∙ ap₂ (λ (k : Book) (g : ℕ). printed_end k.n 0 (answer k g)) holds.clauses holds.goal

-- The program's output, from bytes to bytes.
pub report_printed : (s : List ℕ) (r : Settled) → SettledAs (judge s) r → report_of r ≡ printed s
unfolding printed printed_as
report_printed s r = by_judgement (judge s)
  where
    by_judgement : (j : Judgement) → SettledAs j r → report_of r ≡ printed_as j
    by_judgement (judgement.refused number place) h = ap (λ (v : Told). report_by v r.session program) h.0
    by_judgement (judgement.accepted t) h = settled_printed t r h.0 h.1 h.2
