-- The contract of the reading of a line.
use Rattle.std.specs.Prelude.{List, ◌≡◌, ℕ, ◌+◌, ◌≤◌, min, length, take, Option, Some, None, option_map, unwrap_or, MatchOption}
use Rattle.ipl.specs.Page.{goal_table}
use Rattle.ipl.specs.Book.{add_flat, add_implication, add, question, set_mark, return_to, page}
use Rattle.prover.specs.Calls.{flat_of}
use Rattle.script.specs.Numbers.{paired}
use Rattle.script.specs.Words.{words_of}
use Rattle.script.specs.Command.{Command, Line, silent, command, no_call, open_session, read_text, call_book, tell_length, write_sheet, check_sheet, tell_mean, screen_text}
use Rattle.script.specs.Command.{end, GoalList, page_in, command_by, or_none, line_of}
use Rattle.script.specs.declared.reading.Goals.{Goals}
use Rattle.script.specs.declared.reading.Verb.{Verb}
use Rattle.script.specs.declared.reading.Call.{Call}
use Rattle.script.specs.declared.reading.Call.TheVariants as code
use Rattle.script.specs.declared.answers.Large.{Large}
use Rattle.script.specs.declared.answers.Large.TheVariants as large

-- The goals of a page that a line is; one more than a page may have are enough of them to tell that they are too many.
abbrev pub goal_room : ℕ
goal_room = goal_table + 1

pub record GoalsAre (gs : List ℕ) (t : Goals) : Type 0 where
  pub size : t.count ≡ min (length gs) goal_room
  pub first : take t.count t.rows ≡ take goal_room gs

-- The words are goals and their author, and these are they; or they are not.
abbrev pub GoalsRead : Option GoalList → Option Goals → Type 0
GoalsRead o r = MatchOption r (o ≡ None) (λ t. (p : GoalList) × (o ≡ Some p) × GoalsAre p.goals t × (t.author ≡ p.author))

abbrev pub page_of : Option GoalList → Line
page_of o = or_none (option_map (λ p. call_book (page p.author p.goals)) o)

-- What a value of the code says.
abbrev pub meaning : Call → Line
meaning code.Silent = silent
meaning code.NoCall = no_call
meaning (code.Open n) = command (open_session n)
meaning (code.Text t) = command (read_text t.now)
meaning (code.Flat left right) = command (call_book (add (add_flat (flat_of left right))))
meaning (code.Implication a b c) = command (call_book (add (add_implication (record { a = a; b = b; c = c }))))
meaning (code.Ask a g) = command (call_book (question a g))
meaning (code.Page words) = page_of (page_in (words_of words.now))
meaning (code.Mark j) = command (call_book (set_mark j))
meaning (code.Return j) = command (call_book (return_to j))
meaning code.Length = command tell_length
meaning code.Sheet = command write_sheet
meaning (code.Check digits) = command (check_sheet (paired digits.now))
meaning (code.Mean a) = command (tell_mean a)
meaning (code.Screen t) = command (screen_text t.now)

-- The words of a page are one, and the digits are no longer than the line.
abbrev pub Inside : List ℕ → Call → Type 0
Inside line code.Silent = Unit {0}
Inside line code.NoCall = Unit {0}
Inside line (code.Open n) = Unit {0}
Inside line (code.Text t) = Unit {0}
Inside line (code.Flat left right) = Unit {0}
Inside line (code.Implication a b c) = Unit {0}
Inside line (code.Ask a g) = Unit {0}
Inside line (code.Page words) = (p : GoalList) × (page_in (words_of words.now) ≡ Some p)
Inside line (code.Mark j) = Unit {0}
Inside line (code.Return j) = Unit {0}
Inside line code.Length = Unit {0}
Inside line code.Sheet = Unit {0}
Inside line (code.Check digits) = length digits.now ≤ length line
Inside line (code.Mean a) = Unit {0}
Inside line (code.Screen t) = Unit {0}

-- The calls that need large tables are calls.
abbrev pub as_call : Large → Call
as_call (large.Text t) = code.Text t
as_call (large.Page words) = code.Page words
as_call large.Sheet = code.Sheet
as_call (large.Check digits) = code.Check digits
as_call (large.Screen t) = code.Screen t

-- The value says what a line is.
pub record Means (line : List ℕ) (l : Line) (r : Call) : Type 0 where
  pub is : meaning r ≡ l
  pub inside : Inside line r

abbrev pub ReadAs : List ℕ → Call → Type 0
ReadAs line r = Means line (line_of line) r

-- The same of a call by its verb, and what follows its word.
abbrev pub Arguments : Verb → List ℕ → Option Call → Type 0
Arguments verb line r = Means line (or_none (command_by verb line (words_of line))) (unwrap_or r code.NoCall)

-- A call is complete where no word follows.
pub record Completes (line : List ℕ) (call : Call) (r : Option Call) : Type 0 where
  pub is : MatchOption r ((c : Command) → end c (words_of line) ≡ None) (λ known. (known ≡ call) × ((c : Command) → end c (words_of line) ≡ Some c))
