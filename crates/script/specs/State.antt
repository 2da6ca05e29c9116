-- What a script has come to, and what each call makes of it and prints: through the book.
use Rattle.std.specs.Prelude.{false, cond, List, [], ◌∷◌, ◌++◌, ℕ, suc, eqb, length, Result, Ok, Err}
use Rattle.std.proofs.Math.Option.{Option, none, some}
use Rattle.refusal.specs.declared.Refusal.{Refusal}
use Rattle.refusal.specs.Numbers.{number_of}
use Rattle.ipl.specs.Search.{Outcome, valid, refuted, refused, unfinished}
use Rattle.ipl.specs.Book as B
use Rattle.ipl.specs.Page.{Entry, searched, refuted_by}
use Rattle.ipl.specs.Book.{Book, Call, add, question, set_mark, return_to, page, opened, open_refusal, refusal, answer_to, entries}
use Rattle.ipl.specs.Work.{decided_by}
use Rattle.prover.specs.Work.{work_at, none_done, with_all}
use Rattle.prover.specs.Calls.{mean_refusal, mean_by}
use Rattle.prover.specs.declared.Work.{Work}
use Rattle.prover.specs.PerVerdict as per-verdict
use Rattle.prover.specs.PerVerdict.{PerVerdict}
use Rattle.syntax.specs.Judge as text
use Rattle.clausify.specs.Naming.{goal_of}
use Rattle.clausify.specs.Demand.{book_of}
use Rattle.certificate.specs.Judge as sheets
use Rattle.certify.specs.Held.{Certificate, bytes_of}
use Rattle.certify.specs.Written.{told_of}
use Rattle.certify.specs.Demand.{keeps}
use Prim.Native.String.{String}
use Rattle.text.specs.Text as T
use Rattle.text.specs.Text.{ascii, labelled, hex}
use Rattle.judgement.specs.Report.{check_report}
use Rattle.certificate.specs.Format.{each}
use Rattle.report.specs.Report.{world_line, text_refusal}
use Rattle.report.specs.Screening.{screen_line}
use Rattle.report.specs.Printed.{printed_end}
use Rattle.script.specs.Command.{Command, open_session, read_text, call_book, tell_length, write_sheet, check_sheet, tell_mean, screen_text, Line, silent, command, no_call}

-- The book, the work of the authors, and the problem and answer of the verdict held.
pub record State : Type 0 where
  pub book : Book
  pub work : List Work
  pub answered : Option Certificate

-- A new session.
abbrev pub fresh : Book → State
fresh k = record { book = k; work = none_done; answered = none }

-- ---- what a call makes of it

abbrev pub next : State → Command → State
next σ (open_session n) = fresh (opened n)
next σ (read_text s) = fresh (book_of (text.judge s))
next σ (call_book c) =
    record { book = B.next σ.book c; work = with_all σ.work (decided_by σ.book c); answered = keeps σ.book c σ.answered }
next σ tell_length = σ
next σ write_sheet = σ
next σ (check_sheet bytes) = σ
next σ (tell_mean a) = σ
next σ (screen_text s) = σ

-- ---- what it prints

-- A refusal without a place.
abbrev pub refused_line : ℕ → List ℕ
refused_line number = T.refusal false number 0

-- "`done` or `refused K`."
abbrev pub changed_line : ℕ → List ℕ
changed_line number = cond (eqb number 0) (ascii "done\n") (refused_line number)

-- "`goal G` .. or `refused K`, `refused 3 at P`."
abbrev pub goal_line : ℕ → List ℕ
goal_line g = labelled "goal " g ++ ascii "\n"

abbrev pub text_line : text.Judgement → List ℕ
text_line (text.refused number place) = text_refusal number place
text_line (text.accepted t) = goal_line (goal_of t)

-- "`length N` or `refused K`."
abbrev pub length_line : Result ℕ Refusal → List ℕ
length_line (Ok size) = labelled "length " size ++ ascii "\n"
length_line (Err e) = refused_line (number_of e)

-- "`sheet HEX`, two small digits a byte; or `refused K`."
abbrev pub digits_line : List ℕ → List ℕ
digits_line bytes = ascii "sheet " ++ hex bytes ++ ascii "\n"

abbrev pub sheet_line : Option Certificate → List ℕ
sheet_line none = refused_line 9
sheet_line (some x) = digits_line (bytes_of x)

-- "`mean Q remainder R` or `refused K`."
abbrev pub mean_line : PerVerdict → List ℕ
mean_line (per-verdict.Questions whole remainder) = labelled "mean " whole ++ labelled " remainder " remainder ++ ascii "\n"
mean_line (per-verdict.Refused number) = refused_line number

-- "`goal I valid S`, or `goal I refuted W` and its `world` lines, or `goal I refuted by J`, or `goal I refused K`."
abbrev pub figured_line : ℕ → String → ℕ → List ℕ
figured_line i label figure = labelled "goal " i ++ labelled label figure ++ ascii "\n"

abbrev pub outcome_lines : ℕ → Outcome → List ℕ
outcome_lines i (valid end) = figured_line i " valid " (length end.steps)
outcome_lines i (refuted end) = figured_line i " refuted " (length end.worlds) ++ each world_line end.worlds
outcome_lines i (refused number) = figured_line i " refused " number
outcome_lines i unfinished = []

abbrev pub entry_lines : ℕ → Entry → List ℕ
entry_lines i (searched o) = outcome_lines i o
entry_lines i (refuted_by j) = figured_line i " refuted by " j

-- Of the goals from the place i on.
abbrev pub entries_lines : ℕ → List Entry → List ℕ
entries_lines i [] = []
entries_lines i (e ∷ es) = entry_lines i e ++ entries_lines (suc i) es

abbrev pub printed_call : State → Call → List ℕ
printed_call σ (add a) = changed_line (refusal σ.book (add a))
-- "The `questions` printed is that author's count."
printed_call σ (question a g) = printed_end σ.book.n (work_at σ.work a).questions (answer_to σ.book a g)
printed_call σ (set_mark j) = changed_line (refusal σ.book (set_mark j))
printed_call σ (return_to j) = changed_line (refusal σ.book (return_to j))
printed_call σ (page a gs) =
    cond (eqb (refusal σ.book (page a gs)) 0) (entries_lines 0 (entries σ.book gs)) (refused_line (refusal σ.book (page a gs)))

abbrev pub printed_command : State → Command → List ℕ
printed_command σ (open_session n) = changed_line (open_refusal n)
printed_command σ (read_text s) = text_line (text.judge s)
printed_command σ (call_book c) = printed_call σ c
printed_command σ tell_length = length_line (told_of σ.answered)
printed_command σ write_sheet = sheet_line σ.answered
printed_command σ (check_sheet bytes) = check_report (sheets.judge bytes)
printed_command σ (tell_mean a) = mean_line (mean_by (mean_refusal σ.work a) σ.work a)
printed_command σ (screen_text s) = screen_line s

-- "`line K is no call`."
abbrev pub no_call_line : ℕ → List ℕ
no_call_line number = labelled "line " number ++ ascii " is no call\n"

abbrev pub printed_line : State → ℕ → Line → List ℕ
printed_line σ number silent = []
printed_line σ number (command c) = printed_command σ c
printed_line σ number no_call = no_call_line number

abbrev pub next_line : State → Line → State
next_line σ silent = σ
next_line σ (command c) = next σ c
next_line σ no_call = σ
