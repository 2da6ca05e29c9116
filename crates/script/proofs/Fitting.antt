-- There is room for the answer to every line, so it is written whole.
use mathlib.Core.Bool.{false, not, cond, ◌&&◌}
use mathlib.Core.List.{List, [], ◌++◌}
use mathlib.Core.Logic.{inl, inr}
use mathlib.Core.Option.{Option, none, some}
use mathlib.Core.Path.{◌≡◌, ap, ◌∙◌}
use Prim.Native.Nat.{ℕ, ◌/◌, ◌%◌, ◌≤◌}
use native.Mathlib.Nat.{mod-le, div-le_self}
use native.Mathlib.Decide.{dec_le}
use native.Mathlib.Omega.{arith}
use lib.Dec.{T, eqb, leb, ltb}
use lib.ListN.{length, take, length-append}
use lib.Seq.{take_all}
use borrow.Author.Tests.{eq-eqb, ne_eqb}
use Rattle.atoms.proofs.Machine.{limit_small}
use Rattle.atoms.proofs.Truth.{by_cond}
use Rattle.ipl.specs.Clause.{bot, Flat, Implication}
use Rattle.ipl.specs.Range.{implication_table, atom_or_bot, flat_in_range, implication_in_range}
use Rattle.ipl.specs.Lists.{all}
use Rattle.ipl.specs.Marks.{mark_table, is_set}
use Rattle.ipl.specs.Page.{goal_table}
use Rattle.ipl.specs.Authors.{is_author, author_number}
use Rattle.ipl.specs.Search.{refused}
use Rattle.ipl.specs.Book.{Book, add_flat, add_implication, Call, add, question, set_mark, return_to, page, count_in_range}
use Rattle.ipl.specs.Book.{open_refusal, flats_full, flat_refusal, implication_refusal, addition_refusal, answer, mark_refusal, return_refusal, page_refusal, refusal}
use Rattle.ipl.proofs.Range.{AtomOrBot, atom_or_bot_lem}
use Rattle.ipl.proofs.Page.{page_few}
use Rattle.prover.specs.State.{book}
use Rattle.prover.specs.Work.{work_at, works_of}
use Rattle.prover.specs.Calls.{mean_refusal, mean_of, mean_by}
use Rattle.prover.specs.PerVerdict.{Refused}
use Rattle.prover.specs.declared.Work.{Work}
use Rattle.prover.proofs.Works.{Bounded, bounded_at}
use Rattle.prover.specs.declared.Session.{Session}
use Rattle.ipl.specs.Formula.{Formula}
use Rattle.syntax.specs.Nodes.{nodes, named}
use Rattle.syntax.specs.Refusal.{most_names}
use Rattle.syntax.specs.Judge as text
use Rattle.syntax.proofs.Judge.{judge_right}
use Rattle.clausify.specs.Naming.{text_book, goal_of}
use Rattle.clausify.proofs.TextBook.{text_book_is, goal_in_range, text_reached}
use Rattle.certificate.proofs.InRange.{range_longest}
use Rattle.certify.specs.Held.{Certificate, bytes_of, length_of, certificate_held}
use Rattle.certify.specs.Written.{told_of}
use Rattle.certify.proofs.Buffer.{bytes_counted}
use Rattle.certify.proofs.DemandTwo.{IsRight}
use Rattle.text.specs.Text.{ascii, labelled, hex}
use Rattle.text.specs.Output.{longest, Started}
use Rattle.text.proofs.Hexadecimal.{hex_length}
use Rattle.text.proofs.Lengths.{labelled_length, refusal_length}
use Rattle.judgement.proofs.Fitting.{judgement_fits}
use Rattle.report.specs.Printed.{printed_end}
use Rattle.report.proofs.Screened.{screen_short}
use Rattle.report.proofs.Fitting.{answer_fits, text_refusal_short}
use Rattle.script.specs.Command.{Command, open_session, read_text, call_book, tell_length, write_sheet, check_sheet, tell_mean, screen_text, Line, silent, command, no_call}
use Rattle.script.specs.State.{refused_line, changed_line, text_line, length_line, sheet_line, mean_line, printed_call, printed_command, printed_line}
use Rattle.script.specs.Transcript.{most_lines}
use Rattle.script.specs.Run.{output_room}
use Rattle.script.proofs.PageLines.{entries_length}
use Rattle.script.proofs.Standing.{state_of, Stands}

abbrev pub Fits : List ℕ → Type 0
Fits text = length text ≤ output_room

pub whole : {T entry exit : List ℕ} {r : ℕ} → Fits T → output_room ≤ length entry → Started T entry exit r → take r exit ≡ T
whole {T} {r = r} fits room a = let b = a.begins in b.same ∙ take_all r T (omega (arith, b.fills, a.size))

-- ---- changes

-- The numbers of refused changes have at most two digits.
abbrev Small : ℕ → Type 0
Small k = k ≤ 21

refused_fits : (k : ℕ) → Small k → Fits (refused_line k)
refused_fits k h = omega (arith, refusal_length false 1 0 k 0 (omega arith) (omega arith))

changed_fits : (k : ℕ) → Small k → Fits (changed_line k)
unfolding ascii
changed_fits k h =
    by_cond Fits (eqb k 0) (ascii "done\n") (refused_line k)
    (λ _. omega arith)
    (λ _. refused_fits k h)

open_number : (n : ℕ) → Small (open_refusal n)
unfolding open_refusal
open_number n = by_cond Small (count_in_range n) 0 5 (λ _. omega arith) (λ _. omega arith)

flat_number_lem : (k : Book) (f : Flat) → Small (flat_refusal k f)
unfolding flat_refusal
flat_number_lem k f =
    by_cond Small (not (flat_in_range k.n f)) 6 (cond (flats_full k) 7 0)
    (λ _. omega arith)
    (λ _. by_cond Small (flats_full k) 7 0 (λ _. omega arith) (λ _. omega arith))

implication_number_lem : (k : Book) (i : Implication) → Small (implication_refusal k i)
unfolding implication_refusal
implication_number_lem k i =
    let full = leb implication_table (length k.implications) in
    let no_row = not (eqb i.b bot) && flats_full k in
    by_cond Small (not (implication_in_range k.n i)) 6 (cond no_row 7 (cond full 8 0))
    (λ _. omega arith)
    (λ _. by_cond Small no_row 7 (cond full 8 0)
    (λ _. omega arith)
    (λ _. by_cond Small full 8 0 (λ _. omega arith) (λ _. omega arith)))

mark_number_lem : (j : ℕ) → Small (mark_refusal j)
unfolding mark_refusal
mark_number_lem j = by_cond Small (ltb j mark_table) 0 17 (λ _. omega arith) (λ _. omega arith)

return_number_lem : (k : Book) (j : ℕ) → Small (return_refusal k j)
unfolding return_refusal
return_number_lem k j =
    by_cond Small (ltb j mark_table) (cond (is_set j k.marks) 0 18) 17
    (λ _. by_cond Small (is_set j k.marks) 0 18 (λ _. omega arith) (λ _. omega arith))
    (λ _. omega arith)

author_small : (a k : ℕ) → Small k → Small (author_number a k)
author_small a k small = by_cond Small (is_author a) k 20 (λ _. small) (λ _. omega arith)

page_number_lem : (k : Book) (a : ℕ) (gs : List ℕ) → Small (page_refusal k a gs)
unfolding page_refusal
page_number_lem k a gs =
    author_small a (cond (leb (length gs) goal_table) (cond (all (atom_or_bot k.n) gs) 0 6) 19)
    (by_cond Small (leb (length gs) goal_table) (cond (all (atom_or_bot k.n) gs) 0 6) 19
    (λ _. by_cond Small (all (atom_or_bot k.n) gs) 0 6 (λ _. omega arith) (λ _. omega arith))
    (λ _. omega arith))

-- ---- texts

goal_small : (t : Formula) → named (nodes t).table ≤ most_names → goal_of t ≤ 255
goal_small t few = go (atom_or_bot_lem (text_book t).n (goal_of t) is_in_range)
  where
    is_in_range : T (atom_or_bot (text_book t).n (goal_of t))
    is_in_range = rw (ap (λ (k : Book). k.n) (text_book_is t few)) (goal_in_range t few)

    go : AtomOrBot (text_book t).n (goal_of t) → goal_of t ≤ 255
    go (inl below) = omega (arith, (text_reached t).rows.well_formed.few, limit_small)
    go (inr is-bot) = omega arith

text_fits : (s : List ℕ) (j : text.Judgement) → text.Right s j → Fits (text_line j)
unfolding ascii
text_fits s (text.refused number place) h = omega (arith, text_refusal_short s number place h)
text_fits s (text.accepted t) h =
    let small = goal_small t (omega (arith, h.size_right)) in
    omega (arith, length-append (labelled "goal " (goal_of t)) (ascii "\n"), labelled_length "goal " 2 (goal_of t) (omega arith))

-- ---- sheets

nine_fits : Fits (refused_line 9)
nine_fits = omega (arith, refusal_length false 0 0 9 0 (omega arith) (omega arith))

length_fits : (x : Option Certificate) → IsRight x → Fits (length_line (told_of x))
unfolding ascii
length_fits none right = nine_fits
length_fits (some x) right =
    let size = length_of x in
    let few = range_longest x.problem x.claim right.range in
    omega (arith, length-append (labelled "length " size) (ascii "\n"), labelled_length "length " 4 size (omega (arith, few)))

sheet_fits : (x : Option Certificate) → IsRight x → Fits (sheet_line x)
unfolding ascii
sheet_fits none right = nine_fits
sheet_fits (some x) right =
    let digits = hex (bytes_of x) in
    omega (
      arith,
      length-append (ascii "sheet " ++ digits) (ascii "\n"),
      length-append (ascii "sheet ") digits,
      hex_length (bytes_of x),
      bytes_counted x,
      range_longest x.problem x.claim right.range,
    )

-- ---- means

mean_fits : (W : List Work) → Bounded W → (a : ℕ) → Fits (mean_line (mean_by (mean_refusal W a) W a))
unfolding ascii
mean_fits W bounded a =
    by_cond (λ told. Fits (mean_line told)) (eqb number 0) (mean_of work) (Refused number) (λ _. whole_fits)
    (λ _. refused_fits number (author_small a _ (by_cond Small (eqb work.verdicts 0) 21 0 (λ _. omega arith) (λ _. omega arith))))
  where
    work : Work
    work = work_at W a

    number : ℕ
    number = mean_refusal W a

    whole_fits : Fits (mean_line (mean_of work))
    whole_fits =
        let mean = work.questions / work.verdicts in
        let remainder = work.questions % work.verdicts in
        let few = bounded_at W a bounded in
        omega (
          arith,
          length-append (labelled "mean " mean ++ labelled " remainder " remainder) (ascii "\n"),
          length-append (labelled "mean " mean) (labelled " remainder " remainder),
          labelled_length "mean " 9 mean (omega (arith, few, div-le_self work.questions work.verdicts)),
          labelled_length " remainder " 9 remainder (omega (arith, few, mod-le work.questions work.verdicts)),
        )

-- ---- every line

module _ (s : Session) (h : Stands s) where
  call_fits : (c : Call) → Fits (printed_call (state_of s) c)
  unfolding refusal addition_refusal longest printed_end
  call_fits (add (add_flat f)) = changed_fits (flat_refusal (book s) f) (flat_number_lem (book s) f)
  call_fits (add (add_implication i)) = changed_fits (implication_refusal (book s) i) (implication_number_lem (book s) i)
  call_fits (question a g) =
      by_cond (λ o. Fits (printed_end s.n before o)) (is_author a) (answer (book s) g) (refused 20)
      (λ _. omega (arith, answer_fits (book s) g before h.standing.reached))
      (λ _. omega (arith, refusal_length (eqb 20 3) 1 3 20 0 (omega arith) (omega arith)))
    where
      before : ℕ
      before = (work_at (works_of s.authors) a).questions
  call_fits (set_mark j) = changed_fits (mark_refusal j) (mark_number_lem j)
  call_fits (return_to j) = changed_fits (return_refusal (book s) j) (return_number_lem (book s) j)
  call_fits (page a gs) = elim (dec_le (page_refusal (book s) a gs) 0) [
    | yes l ↦
        let none : page_refusal (book s) a gs ≡ 0 = omega arith in
        let few = page_few (book s) a gs none in
        rw (eq-eqb (page_refusal (book s) a gs) 0 none) (omega (arith, few, entries_length gs (book s) h.standing.reached [] tt 0 (omega (arith, few))))
    | no l ↦ rw (ne_eqb (page_refusal (book s) a gs) 0 (λ e. omega arith)) (refused_fits (page_refusal (book s) a gs) (page_number_lem (book s) a gs))
  ]

  command_fits : (c : Command) → Fits (printed_command (state_of s) c)
  unfolding longest
  command_fits (open_session n) = changed_fits (open_refusal n) (open_number n)
  command_fits (read_text t) = text_fits t (text.judge t) (judge_right t)
  command_fits (call_book c) = call_fits c
  command_fits tell_length = length_fits (certificate_held s s.held) h.standing.right
  command_fits write_sheet = sheet_fits (certificate_held s s.held) h.standing.right
  command_fits (check_sheet bytes) = omega (arith, judgement_fits bytes)
  command_fits (tell_mean a) = mean_fits (works_of s.authors) h.bounded a
  command_fits (screen_text t) = omega (arith, screen_short t)

  pub line_fits : (number : ℕ) → number ≤ most_lines → (l : Line) → Fits (printed_line (state_of s) number l)
  unfolding ascii
  line_fits number few silent = omega arith
  line_fits number few (command c) = command_fits c
  line_fits number few no_call = omega (arith, length-append (labelled "line " number) (ascii " is no call\n"), labelled_length "line " 19 number (omega arith))
