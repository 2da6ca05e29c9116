-- From a line's bytes to a call.
use Rattle.std.specs.Prelude.{Bool, true, false, cond, ◌&&◌, ◌||◌, List, [], ◌∷◌, ℕ, ◌^◌, eqb, leb, length, drop, Option, None, Some, option_map, option_and_then}
use Rattle.atoms.specs.Sets.{limit}
use Rattle.std.specs.List.{list_all}
use Rattle.ipl.specs.Authors.{program}
use Rattle.ipl.specs.Book.{add_flat, add_implication, Call, add, question, set_mark, return_to, page}
use Rattle.text.specs.Text.{ascii}
use Rattle.script.specs.Words.{space, words_of, unindented}
use Rattle.script.specs.Numbers.{number_below, bytes_in}
use Rattle.script.specs.declared.reading.Verb.{Verb}
use Rattle.script.specs.declared.reading.Verb.TheVariants.{Open, Text, Flat, Implication, Ask, Page, Mark, Return, Length, Sheet, Check, Mean, Screen, Other}

-- What a line asks for: the calls of the book, and those beside them.
pub data Command : Type 0 where
  open_session : ℕ → Command
  read_text : List ℕ → Command
  call_book : Call → Command
  tell_length : Command
  write_sheet : Command
  check_sheet : List ℕ → Command
  tell_mean : ℕ → Command
  screen_text : List ℕ → Command

-- A line that prints nothing; a call; or a line that is neither.
pub data Line : Type 0 where
  silent : Line
  command : Command → Line
  no_call : Line

-- ---- words

unfoldable pub same : List ℕ → List ℕ → Bool
same [] [] = true
same [] (y ∷ m) = false
same (x ∷ l) [] = false
same (x ∷ l) (y ∷ m) = eqb x y && same l m

unfoldable pub verb_of : List ℕ → Verb
verb_of w =
    cond (same w (ascii "open")) Open
    (cond (same w (ascii "text")) Text
    (cond (same w (ascii "flat")) Flat
    (cond (same w (ascii "implication")) Implication
    (cond (same w (ascii "ask")) Ask
    (cond (same w (ascii "page")) Page
    (cond (same w (ascii "mark")) Mark
    (cond (same w (ascii "return")) Return
    (cond (same w (ascii "length")) Length
    (cond (same w (ascii "sheet")) Sheet
    (cond (same w (ascii "check")) Check (cond (same w (ascii "mean")) Mean (cond (same w (ascii "screen")) Screen Other))))))))))))

-- "One over 255 where a byte belongs, or a set over 2^64 - 1, is no number."
abbrev pub byte_in : List ℕ → Option ℕ
byte_in = number_below 256

abbrev pub set_in : List ℕ → Option ℕ
set_in = number_below (2 ^ limit)

-- ---- arguments: "another number of words, no number where one belongs" is no call

-- One more argument, which is a number.
abbrev pub argument : (List ℕ → Option ℕ) → (ℕ → List (List ℕ) → Option Command) → List (List ℕ) → Option Command
argument number further [] = None
argument number further (w ∷ ws) = option_and_then (λ x. further x ws) (number w)

-- No further argument.
abbrev pub end : Command → List (List ℕ) → Option Command
end c [] = Some c
end c (w ∷ ws) = None

-- One argument, which is a byte.
abbrev pub only_byte : List (List ℕ) → Option ℕ
only_byte [] = None
only_byte (w ∷ []) = byte_in w
only_byte (w ∷ v ∷ ws) = None

-- "`by A`" at the line's end; "author 0 without `by`".
abbrev pub author_in : List (List ℕ) → Option ℕ
author_in [] = Some program
author_in (w ∷ ws) = cond (same w (ascii "by")) (only_byte ws) None

-- "Any number of goals may stand in a line", and then the author.
pub record GoalList : Type 0 where
  pub author : ℕ
  pub goals : List ℕ

-- These goals and their author, if there is one.
abbrev pub authored : List ℕ → Option ℕ → Option GoalList
authored gs o = option_map (λ a. record { author = a; goals = gs }) o

-- A goal before the others.
abbrev pub one_goal_more : ℕ → Option GoalList → Option GoalList
one_goal_more g o = option_map (λ p. record { author = p.author; goals = g ∷ p.goals }) o

-- A word that is a goal, and further ones; or the last words, which are the author.
abbrev pub goal_or : Option ℕ → Option GoalList → Option GoalList → Option GoalList
goal_or (Some g) further last = one_goal_more g further
goal_or None further last = last

abbrev pub page_in : List (List ℕ) → Option GoalList
page_in [] = authored [] (author_in [])
page_in (w ∷ ws) = goal_or (byte_in w) (page_in ws) (authored [] (author_in (w ∷ ws)))

-- "None at all is the empty sheet."
abbrev pub sheet_argument : List (List ℕ) → Option Command
sheet_argument [] = Some (check_sheet [])
sheet_argument (w ∷ ws) = option_and_then (λ bytes. end (check_sheet bytes) ws) (bytes_in w)

-- By the first word: what follows it in the line, and the words there.
abbrev pub command_by : Verb → List ℕ → List (List ℕ) → Option Command
command_by Open rest ws = option_map open_session (only_byte ws)
-- "All after the first space behind `text`, as it stands, to the line's end; `text` alone is the empty text."
command_by Text rest ws = Some (read_text (drop 1 rest))
command_by Flat rest ws = argument set_in (λ left. argument set_in (λ right. end (call_book (add (add_flat (record { left = left; right = right })))))) ws
command_by Implication rest ws =
    argument byte_in (λ a. argument byte_in (λ b. argument byte_in (λ c. end (call_book (add (add_implication (record { a = a; b = b; c = c }))))))) ws
command_by Ask rest ws = argument byte_in (λ g further. option_map (λ a. call_book (question a g)) (author_in further)) ws
command_by Page rest ws = option_map (λ p. call_book (page p.author p.goals)) (page_in ws)
command_by Mark rest ws = option_map (λ j. call_book (set_mark j)) (only_byte ws)
command_by Return rest ws = option_map (λ j. call_book (return_to j)) (only_byte ws)
command_by Length rest ws = end tell_length ws
command_by Sheet rest ws = end write_sheet ws
command_by Check rest ws = sheet_argument ws
command_by Mean rest ws = option_map tell_mean (only_byte ws)
-- "As for `text`."
command_by Screen rest ws = Some (screen_text (drop 1 rest))
command_by Other rest ws = None

abbrev pub command_from : List ℕ → List (List ℕ) → Option Command
command_from line [] = None
command_from line (verb ∷ ws) = command_by (verb_of verb) (drop (length verb) line) ws

unfoldable pub command_in : List ℕ → Option Command
command_in line = command_from (unindented line) (words_of line)

-- ---- lines

-- "A line of spaces alone, or whose first byte is `#`, prints nothing, whatever its length."
unfoldable pub is_blank : List ℕ → Bool
is_blank = list_all (λ b. eqb b space)

abbrev pub hash : ℕ
hash = 35

abbrev pub is_comment : List ℕ → Bool
is_comment [] = false
is_comment (b ∷ line) = eqb b hash

-- "Over 32,768 bytes without its byte 10" is no call.
abbrev pub longest_call : ℕ
longest_call = 32768

abbrev pub or_none : Option Command → Line
or_none None = no_call
or_none (Some c) = command c

unfoldable pub line_of : List ℕ → Line
line_of line = cond (is_blank line || is_comment line) silent (cond (leb (length line) longest_call) (or_none (command_in line)) no_call)
