-- A session is the state of a script: what the contracts make of it, and what is printed, is what the definitions make of the state.
use mathlib.Core.Bool.{true, false, cond, false≢true}
use Rattle.std.specs.Prelude.{Result, Ok, Err, IsOk}
use mathlib.Core.List.{List}
use mathlib.Core.Option.{Option, none}
use mathlib.Core.Path.{◌≡◌, refl, sym, ap, ◌∙◌, subst}
use Prim.Native.Nat.{ℕ, ◌<◌}
use native.Mathlib.Decide.{dec_le}
use native.Mathlib.Omega.{arith}
use lib.Dec.{eqb}
use lib.ListN.{length, take, length-take}
use lib.Seq.{take_all}
use borrow.Author.Tests.{ltb-true, eq-eqb, ne_eqb, lt-leb}
use Rattle.ipl.specs.Book as B
use Rattle.ipl.specs.Page.{goal_table}
use Rattle.ipl.specs.Authors.{author_table, author_number}
use Rattle.ipl.specs.Book.{Book, add_flat, add_implication, Call, add, question, set_mark, return_to, page, opened, addition_refusal, page_refusal, refusal, taken, answer_to}
use Rattle.ipl.specs.Work.{decided_by}
use Rattle.ipl.proofs.Authors.{author_zero}
use Rattle.ipl.proofs.Book.{Reached, opened_reached, verdict_from}
use Rattle.prover.specs.State.{book}
use Rattle.prover.specs.InRange.{in_range}
use Rattle.prover.specs.Work.{works_of, none_done, with_all}
use Rattle.prover.specs.Calls.{number, NothingHeld, VerdictKept, Opened, Asked, mean_told}
use Rattle.prover.specs.Page.{goals_of, PageAnswered}
use Rattle.prover.specs.Demand as made
use Rattle.prover.specs.Demand.{PageReturned}
use Rattle.prover.specs.declared.Session.{Session}
use Rattle.prover.specs.Told.{number_in, place_in, Changed, Answered}
use Rattle.prover.specs.declared.GoalRecord.{GoalRecord}
use Rattle.prover.proofs.Works.{Bounded, none_bounded, with_bounded}
use Rattle.prover.proofs.Keeping.{ByBook, dropped_kept, set_kept, asked_as}
use Rattle.prover.proofs.PageRuns.{page_answer, page_unchanged}
use Rattle.prover.proofs.DemandThree.{call_kept}
use Rattle.prover.proofs.Counts.{changed_work, call_work}
use Rattle.refusal.specs.declared.Refusal.{Refusal}
use Rattle.syntax.specs.Refusal.{Refused, line_1, line_2, line_3, line_4}
use Rattle.syntax.specs.Judge as text
use Rattle.syntax.proofs.Judge.{judge_right}
use Rattle.clausify.specs.Calls.{ClausifiedAs}
use Rattle.clausify.specs.Demand.{book_of}
use Rattle.clausify.specs.declared.Clausified.{Clausified}
use Rattle.clausify.proofs.TextBook.{text_reached}
use Rattle.certify.specs.Held.{Certificate, certificate_held}
use Rattle.certify.specs.Written.{length_told}
use Rattle.certify.proofs.DemandTwo.{Standing, nothing_stands, dropped, mark_set, called}
use Rattle.report.specs.Report.{report_by}
use Rattle.report.proofs.Printed.{answer_printed}
use Rattle.script.specs.Command.{Command, open_session, read_text, call_book, tell_length, write_sheet, check_sheet, tell_mean, screen_text, Line, silent, command, no_call}
use Rattle.script.specs.State.{State, fresh, next, changed_line, text_line, length_line, mean_line, printed_call, printed_command, printed_line, next_line}
use Rattle.script.specs.Reading.{goal_room}
use Rattle.script.specs.Answer.{clausified_line, held_line, page_lines, CallDone, CommandDone, LineDone}
use Rattle.script.proofs.PageLines.{records_lines_lem}

-- The state that a session is.
abbrev pub state_of : Session → State
state_of s = record { book = book s; work = works_of s.authors; answered = certificate_held s s.held }

-- It is in range, its book is reached, what it holds is right, and no count has passed its end.
pub record Stands (s : Session) : Type 0 where
  pub standing : Standing s (certificate_held s s.held)
  pub bounded : Bounded (works_of s.authors)

-- A text was printed, and the session, which stands, is now the state σ.
pub record Reaches (σ : State) (text : List ℕ) (s : Session) (printed : List ℕ) : Type 0 where
  pub prints : printed ≡ text
  pub state : state_of s ≡ σ
  pub stands : Stands s

reaches : {σ : State} {text : List ℕ} {s : Session} {printed : List ℕ} → printed ≡ text → book s ≡ σ.book → works_of s.authors ≡ σ.work → Bounded σ.work
    → Standing s σ.answered → Reaches σ text s printed
reaches {s = s} p b w bounded h = record {
  prints = p;
  state = λ i. record { book = b i; work = w i; answered = h.held_is i };
  stands = record { standing = subst (Standing s) (sym h.held_is) h; bounded = subst Bounded (sym w) bounded };
}

-- The same of an equal session and equal bytes.
pub same_reached : {σ : State} {text : List ℕ} {s u : Session} {printed answered : List ℕ} → s ≡ u → printed ≡ answered → Reaches σ text u answered → Reaches σ text s printed
same_reached e p r = record { prints = p ∙ r.prints; state = ap state_of e ∙ r.state; stands = subst Stands (sym e) r.stands }

-- ---- new sessions

fresh_reached : {k : Book} {text printed : List ℕ} {s : Session} → Reached k → book s ≡ k → NothingHeld none_done s → printed ≡ text → Reaches (fresh k) text s printed
fresh_reached {s = s} reached e nothing p = reaches p e nothing.work none_bounded (nothing_stands s (subst Reached (sym e) reached) nothing)

pub opened_reaches : (n : ℕ) (r : Changed) → Opened n r → Reaches (fresh (opened n)) (changed_line (B.open_refusal n)) r.session (changed_line r.refusal)
opened_reaches n r o = fresh_reached (opened_reached n) o.holds o.nothing (ap changed_line o.refused)

-- The number of a text's refusal is not 0.
number_told_lem : {t : List ℕ} {number place : ℕ} → Refused t number place → eqb number 0 ≡ false
number_told_lem (line_1 a) = refl
number_told_lem (line_2 a b) = refl
number_told_lem (line_3 a b c d) = refl
number_told_lem (line_4 a b c d) = refl

read_lem : (r : Result Unit Refusal) → IsOk r → number_in r ≡ 0
read_lem (Ok x) h = refl
read_lem (Err e) h = absurd (false≢true h)

module _ (t : List ℕ) (r : Clausified) where
  clausified_line_lem : (j : text.Judgement) → text.Right t j → ClausifiedAs j r → clausified_line (number_in r.read) (place_in r.read) r.goal ≡ text_line j
  clausified_line_lem (text.refused number place) right h = rw (h.0, h.1, number_told_lem right)
  clausified_line_lem (text.accepted f) right h = rw (read_lem r.read h.0, h.1.goal)

  text_reaches : (j : text.Judgement) → text.Right t j → ClausifiedAs j r
      → Reaches (fresh (book_of j)) (text_line j) r.session (clausified_line (number_in r.read) (place_in r.read) r.goal)
  text_reaches (text.refused number place) right h =
      fresh_reached (opened_reached 1) h.2.clauses h.2.nothing (clausified_line_lem (text.refused number place) right h)
  text_reaches (text.accepted f) right h = fresh_reached (text_reached f) h.1.clauses h.1.nothing (clausified_line_lem (text.accepted f) right h)

-- ---- calls of the book

module _ (s : Session) (h : Stands s) where
  abbrev x : Option Certificate
  x = certificate_held s s.held

  abbrev is_in_range : in_range s ≡ true
  is_in_range = h.standing.is_in_range

  abbrev reached : Reached (book s)
  reached = h.standing.reached

  -- Additions and marks: the work stays.
  changed_reaches : (c : Call) (Rest : Session → Type 0) (r : Changed) → ByBook s c Rest r
      → (Rest r.session → works_of r.session.authors ≡ works_of s.authors) → book r.session ≡ B.next (book s) c → (y : Option Certificate) → Standing r.session y
      → Reaches (record { book = B.next (book s) c; work = works_of s.authors; answered = y }) (changed_line (refusal (book s) c)) r.session (changed_line r.refusal)
  changed_reaches c Rest r a same b y stands =
      reaches (ap changed_line a.refused ∙ rw is_in_range) b (changed_work s (number s (refusal (book s) c)) (taken (book s) c) Rest r a same) h.bounded stands

  dropped_reaches : (c : Call) (r : Changed) → ByBook s c (NothingHeld (works_of s.authors)) r
      → Reaches (record { book = B.next (book s) c; work = works_of s.authors; answered = cond (eqb (refusal (book s) c) 0) none x }) (changed_line (refusal (book s) c))
      r.session (changed_line r.refusal)
  dropped_reaches c r a =
      changed_reaches c (NothingHeld (works_of s.authors)) r a (λ n. n.work) (dropped_kept s is_in_range reached c r a).0 _ (dropped s x h.standing c r a)

  set_reaches : (j : ℕ) (r : Changed) → ByBook s (set_mark j) (VerdictKept (works_of s.authors) s) r
      → Reaches (record { book = B.next (book s) (set_mark j); work = works_of s.authors; answered = x }) (changed_line (refusal (book s) (set_mark j)))
      r.session (changed_line r.refusal)
  set_reaches j r a =
      changed_reaches (set_mark j) (VerdictKept (works_of s.authors) s) r a (λ k. k.work) (set_kept s is_in_range reached j r a).0 x (mark_set s x h.standing j r a)

  -- A question or a page, as a program makes it.
  made_reaches : (c : made.Made) (r : made.Returned c) → made.Meets s c r → {printed : List ℕ} → printed ≡ printed_call (state_of s) (made.call_of c)
      → Reaches (next (state_of s) (call_book (made.call_of c))) (printed_call (state_of s) (made.call_of c)) (made.session_of c r) printed
  made_reaches c r m p =
      reaches p (call_kept s is_in_range reached c r m).0 (call_work s is_in_range reached c r m) (with_bounded (decided_by (book s) (made.call_of c)) (works_of s.authors) h.bounded)
      (called s x h.standing c r m)

  asked_reaches : (a g : ℕ) (r : Answered) → Asked s a g r
      → Reaches (next (state_of s) (call_book (question a g))) (printed_call (state_of s) (question a g)) r.session (report_by r.verdict r.session a)
  asked_reaches a g r m =
      made_reaches (made.question a g) r m
      (answer_printed s a g r (answer_to (book s) a g) (λ v. ltb-true a author_table (verdict_from (book s) a g (answer_to (book s) a g) refl v).0) (asked_as s is_in_range reached a g r m))

  -- A page of goals that all fit in it, and one of more.
  module _ (a : ℕ) where
    page_printed : (xs : List GoalRecord) (r : PageReturned) → PageAnswered s a xs r.records r.changed
        → page_lines r.changed.refusal r.records ≡ printed_call (state_of s) (page a (goals_of xs))
    page_printed xs r m =
        let told = refusal (book s) (page a (goals_of xs)) in
        let answered-so = page_answer s is_in_range reached a xs r m in
        elim (dec_le told 0) [
          | yes l ↦ let e : told ≡ 0 = omega arith in rw (answered-so.number, eq-eqb told 0 e) (records_lines_lem 0 (answered-so.records e))
          | no l ↦ rw (answered-so.number, ne_eqb told 0 (λ e. omega arith))
        ]

    too_many : (gs : List ℕ) → goal_table < length gs → refusal (book s) (page a gs) ≡ author_number a 19
    unfolding refusal page_refusal
    too_many gs many = rw (lt-leb (length gs) goal_table many)

    page_refused : (gs : List ℕ) → goal_table < length gs → (xs : List GoalRecord) (r : PageReturned) (m : PageAnswered s a xs r.records r.changed) → goals_of xs ≡ take goal_room gs
        → Reaches (next (state_of s) (call_book (page a gs))) (printed_call (state_of s) (page a gs)) r.changed.session (page_lines r.changed.refusal r.records)
    unfolding B.next decided_by with_all
    page_refused gs many xs r m lent =
        let lent-many : goal_table < length (goals_of xs) = omega (arith, many, ap length lent, length-take goal_room gs) in
        let told : refusal (book s) (page a (goals_of xs)) ≡ refusal (book s) (page a gs) = too_many (goals_of xs) lent-many ∙ sym (too_many gs many) in
        let d : refusal (book s) (page a gs) ≡ 0 → ⊥ = λ e. omega (arith, (author_zero a 19 (sym (too_many gs many) ∙ e)).1) in
        let same = (page_unchanged s is_in_range reached a xs r m (λ e. d (sym told ∙ e))).0 in
        rw ((page_answer s is_in_range reached a xs r m).number, told, ne_eqb (refusal (book s) (page a gs)) 0 d, same) (record { prints = refl; state = refl; stands = h })

    pages_reach : (gs : List ℕ) (xs : List GoalRecord) → goals_of xs ≡ take goal_room gs → (r : PageReturned) (m : PageAnswered s a xs r.records r.changed)
        → Reaches (next (state_of s) (call_book (page a gs))) (printed_call (state_of s) (page a gs)) r.changed.session (page_lines r.changed.refusal r.records)
    pages_reach gs xs lent r m = elim (dec_le (length gs) goal_table) [
      | yes few ↦
          subst (λ (gs : List ℕ). Reaches (next (state_of s) (call_book (page a gs))) (printed_call (state_of s) (page a gs)) r.changed.session (page_lines r.changed.refusal r.records))
          (lent ∙ take_all goal_room gs (omega (arith, few))) (made_reaches (made.page a xs) r m (page_printed xs r m))
      | no many ↦ page_refused gs (omega arith) xs r m lent
    ]

  -- ---- sheets

  told_line : length_line (length_told s) ≡ printed_command (state_of s) tell_length
  told_line = rw is_in_range

  held_line_lem : held_line s ≡ printed_command (state_of s) write_sheet
  held_line_lem = rw is_in_range

  mean_line_lem : (a : ℕ) → mean_line (mean_told s a) ≡ printed_command (state_of s) (tell_mean a)
  mean_line_lem a = rw is_in_range

  -- ---- every line

  module _ {after : Session} {printed : List ℕ} where
    call_reaches : (c : Call) → CallDone s c after printed → Reaches (next (state_of s) (call_book c)) (printed_call (state_of s) c) after printed
    unfolding refusal addition_refusal decided_by with_all
    call_reaches (add (add_flat f)) (r, a, e, p) = same_reached e p (dropped_reaches (add (add_flat f)) r a)
    call_reaches (add (add_implication i)) (r, a, e, p) = same_reached e p (dropped_reaches (add (add_implication i)) r a)
    call_reaches (question w g) (r, a, e, p) = same_reached e p (asked_reaches w g r a)
    call_reaches (set_mark j) (r, a, e, p) = same_reached e p (set_reaches j r a)
    call_reaches (return_to j) (r, a, e, p) = same_reached e p (dropped_reaches (return_to j) r a)
    call_reaches (page w gs) (xs, lent, r, a, e, p) = same_reached e p (pages_reach w gs xs lent r a)

    unchanged : {text : List ℕ} → after ≡ s → printed ≡ text → Reaches (state_of s) text after printed
    unchanged e p = record { prints = p; state = ap state_of e; stands = subst Stands (sym e) h }

    command_reaches : (c : Command) → CommandDone s c after printed → Reaches (next (state_of s) c) (printed_command (state_of s) c) after printed
    command_reaches (open_session n) (r, o, e, p) = same_reached e p (opened_reaches n r o)
    command_reaches (read_text t) (r, d, e, p) = same_reached e p (text_reaches t r (text.judge t) (judge_right t) d)
    command_reaches (call_book c) d = call_reaches c d
    command_reaches tell_length (e, p) = unchanged e (p ∙ told_line)
    command_reaches write_sheet (e, p) = unchanged e (p ∙ held_line_lem)
    command_reaches (check_sheet bytes) (e, p) = unchanged e p
    command_reaches (tell_mean a) (e, p) = unchanged e (p ∙ mean_line_lem a)
    command_reaches (screen_text t) (e, p) = unchanged e p

    pub line_reaches : (number : ℕ) (l : Line) → LineDone s number l after printed
        → Reaches (next_line (state_of s) l) (printed_line (state_of s) number l) after printed
    line_reaches number silent (e, p) = unchanged e p
    line_reaches number (command c) d = command_reaches c d
    line_reaches number no_call (e, p) = unchanged e p
