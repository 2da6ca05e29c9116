-- The contract of the answer to a line, of any session: the next session and what is printed, through the contracts of the calls.
use Rattle.std.specs.Prelude.{cond, List, [], ◌∷◌, ◌++◌, ◌≡◌, ℕ, suc, eqb, take}
use Rattle.ipl.specs.Book.{Call, add, question, set_mark, return_to, page}
use Rattle.prover.specs.InRange.{in_range}
use Rattle.prover.specs.Calls.{Opened, Added, Asked, MarkSet, MarkReturned, mean_told}
use Rattle.prover.specs.State.{worlds_of}
use Rattle.prover.specs.Page.{goals_of, PageAnswered}
use Rattle.prover.specs.Demand.{PageReturned}
use Rattle.prover.specs.declared.GoalAnswer.{GoalAnswer}
use Rattle.prover.specs.declared.GoalAnswer.TheVariants as goal
use Rattle.prover.specs.declared.GoalRecord.{GoalRecord}
use Rattle.prover.specs.declared.Worlds.{Worlds}
use Rattle.prover.specs.declared.Session.{Session}
use Rattle.prover.specs.Told.{number_in, place_in, Changed, Answered}
use Rattle.refusal.specs.Numbers.{number_of}
use Rattle.syntax.specs.Judge as text
use Rattle.clausify.specs.Calls.{ClausifiedAs}
use Rattle.clausify.specs.declared.Clausified.{Clausified}
use Rattle.certificate.specs.Judge as sheets
use Rattle.certify.specs.Held.{certificate_held}
use Rattle.certify.specs.Written.{length_told}
use Rattle.text.specs.declared.draft.Draft.{Draft}
use Rattle.text.specs.Output.{Appends, Started}
use Rattle.judgement.specs.Report.{check_report}
use Rattle.certificate.specs.Format.{each}
use Rattle.report.specs.Report.{world_line, text_refusal, report_by}
use Rattle.report.specs.Screening.{screen_line}
use Rattle.script.specs.Command.{Command, open_session, read_text, call_book, tell_length, write_sheet, check_sheet, tell_mean, screen_text, Line, silent, command, no_call}
use Rattle.script.specs.Reading.{goal_room}
use Rattle.script.specs.State.{refused_line, changed_line, goal_line, length_line, sheet_line, mean_line, figured_line, no_call_line}

-- What is printed of the answers of the calls.
abbrev pub clausified_line : ℕ → ℕ → ℕ → List ℕ
clausified_line refusal place goal = cond (eqb refusal 0) (goal_line goal) (text_refusal refusal place)

-- Of the sheet of a session; 5 for one out of range.
abbrev pub held_line : Session → List ℕ
held_line s = cond (in_range s) (sheet_line (certificate_held s s.held)) (refused_line 5)

-- Of the records of a page.
abbrev pub answer_lines : ℕ → GoalAnswer → Worlds → List ℕ
answer_lines i goal.Open W = []
answer_lines i (goal.Valid steps) W = figured_line i " valid " steps
answer_lines i (goal.Refuted worlds) W = figured_line i " refuted " worlds ++ each world_line (worlds_of W)
answer_lines i (goal.RefutedBy j) W = figured_line i " refuted by " j
answer_lines i (goal.Refused e) W = figured_line i " refused " (number_of e)

abbrev pub record_lines : ℕ → GoalRecord → List ℕ
record_lines i y = answer_lines i y.answer y.worlds

abbrev pub records_lines : ℕ → List GoalRecord → List ℕ
records_lines i [] = []
records_lines i (y ∷ ys) = record_lines i y ++ records_lines (suc i) ys

abbrev pub page_lines : ℕ → List GoalRecord → List ℕ
page_lines number ys = cond (eqb number 0) (records_lines 0 ys) (refused_line number)

-- The call's own contract holds of some answer, the script goes on with its session, and this is printed of it.
abbrev pub ChangeDone : (Changed → Type 0) → Session → List ℕ → Type 0
ChangeDone Meets after printed = (r : Changed) × Meets r × (after ≡ r.session) × (printed ≡ changed_line r.refusal)

abbrev pub CallDone : Session → Call → Session → List ℕ → Type 0
CallDone s (add a) after printed = ChangeDone (Added s a) after printed
CallDone s (set_mark j) after printed = ChangeDone (MarkSet s j) after printed
CallDone s (return_to j) after printed = ChangeDone (MarkReturned s j) after printed
CallDone s (page a gs) after printed =
    (xs : List GoalRecord) × (goals_of xs ≡ take goal_room gs) × (r : PageReturned) × PageAnswered s a xs r.records r.changed
    × (after ≡ r.changed.session) × (printed ≡ page_lines r.changed.refusal r.records)
CallDone s (question a g) after printed = (r : Answered) × Asked s a g r × (after ≡ r.session) × (printed ≡ report_by r.verdict r.session a)

abbrev pub CommandDone : Session → Command → Session → List ℕ → Type 0
CommandDone s (open_session n) after printed = ChangeDone (Opened n) after printed
CommandDone s (read_text t) after printed = (r : Clausified) × ClausifiedAs (text.judge t) r × (after ≡ r.session) × (printed ≡ clausified_line (number_in r.read) (place_in r.read) r.goal)
CommandDone s (call_book c) after printed = CallDone s c after printed
CommandDone s tell_length after printed = (after ≡ s) × (printed ≡ length_line (length_told s))
CommandDone s write_sheet after printed = (after ≡ s) × (printed ≡ held_line s)
CommandDone s (check_sheet bytes) after printed = (after ≡ s) × (printed ≡ check_report (sheets.judge bytes))
CommandDone s (tell_mean a) after printed = (after ≡ s) × (printed ≡ mean_line (mean_told s a))
CommandDone s (screen_text t) after printed = (after ≡ s) × (printed ≡ screen_line t)

-- "A line that is no call .. changes nothing."
abbrev pub LineDone : Session → ℕ → Line → Session → List ℕ → Type 0
LineDone s number silent after printed = (after ≡ s) × (printed ≡ [])
LineDone s number (command c) after printed = CommandDone s c after printed
LineDone s number no_call after printed = (after ≡ s) × (printed ≡ no_call_line number)

-- The session after a line, and how many bytes are printed of it.
pub record Answer : Type 0 where
  pub session : Session
  pub length : ℕ

-- What was done is written at the start of the output, as much of it as there is room for.
abbrev pub Writes : (Session → List ℕ → Type 0) → List ℕ → List ℕ → Answer → Type 0
Writes Done entry exit r = (printed : List ℕ) × Done r.session printed × Started printed entry exit r.length

-- The same in a draft, after what stands there.
abbrev pub Adds : (Session → List ℕ → Type 0) → Draft → Draft → Session → Type 0
Adds Done before after s = (printed : List ℕ) × Done s printed × Appends printed before after

-- How many bytes of a line are kept: one more than a call has, which tells that it is longer.
abbrev pub line_room : ℕ
line_room = 32769
