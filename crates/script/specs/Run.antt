-- What the program does with a script: it gathers lines from pieces and answers each; the theorem that what it prints is the transcript.
use Rattle.std.specs.Prelude.{true, List, [], ◌++◌, ◌≡◌, ℕ, ◌≤◌, ◌<◌, length, take, None, Some}
use Rattle.prover.specs.Calls.{Opened}
use Rattle.prover.specs.declared.Session.{Session}
use Rattle.prover.specs.Told.{Changed}
use Rattle.script.specs.Transcript.{number_after, transcript}
use Rattle.script.specs.Answer.{Answer, line_room}
use Rattle.script.specs.Pieces.{GatheredFrom, Answers}
use Rattle.script.specs.declared.Pending.{Pending}

-- Room for every answer.
abbrev pub output_room : ℕ
output_room = 524288

-- No byte of a line has come yet.
abbrev pub no_line : Pending
no_line = record { length = 0; blank = true }

-- A run over the input that is to come, and what it prints. Where the session, the number of the line, its buffer and what is known of it stand so:
pub data Run : Session → ℕ → List ℕ → Pending → List ℕ → List ℕ → Type 0 where
  -- the input has ended, and the last line is answered;
  last : (s : Session) (number : ℕ) (buffer : List ℕ) (p : Pending) (entry exit : List ℕ) (r : Answer)
      → output_room ≤ length entry → Answers s number buffer p entry exit r
      → Run s number buffer p [] (take r.length exit)
  -- a piece, which more input follows, ends no line;
  goes_on : (s : Session) (number : ℕ) (before : List ℕ) (p : Pending) (piece more after printed : List ℕ) (q : Pending)
      → GatheredFrom piece before p after q None
      → Run s number after q more printed
      → Run s number before p (piece ++ more) printed
  -- or it ends one, which is answered, and the next line begins.
  ends : (s : Session) (number : ℕ) (before : List ℕ) (p : Pending) (piece rest more after printed entry exit : List ℕ) (q : Pending) (a : Answer)
      → GatheredFrom piece before p after q (Some rest)
      → output_room ≤ length entry → Answers s number after q entry exit a
      → Run a.session (number_after number) after no_line (rest ++ more) printed
      → Run s number before p (piece ++ more) (take a.length exit ++ printed)

-- "What a whole script prints is a function of its bytes alone", however they come in pieces.
abbrev pub TranscriptPrinted : Type 0
TranscriptPrinted = (o : Changed) → Opened 1 o → (buffer : List ℕ) → length buffer ≡ line_room
    → (script printed : List ℕ) → Run o.session 1 buffer no_line script printed → printed ≡ transcript script

-- From a piece to the rest of it these bytes are printed, whatever input follows: every run from the rest on is the end of one that prints
-- them first. Here and there: the bytes, the session, the line's number, its buffer and what is known of it.
abbrev pub Prints : List ℕ → List ℕ → Session → ℕ → List ℕ → Pending → List ℕ → Session → ℕ → List ℕ → Pending → Type 0
Prints first piece s number buffer p rest s2 number2 buffer2 p2 =
    (more printed : List ℕ) → Run s2 number2 buffer2 p2 (rest ++ more) printed → Run s number buffer p (piece ++ more) (first ++ printed)

-- Lines of a piece are answered, and this is left of it: what they print are the first n bytes of the output.
pub record LinesAnswered (piece : List ℕ) (s : Session) (number : ℕ) (buffer : List ℕ) (p : Pending)
    (rest : List ℕ) (s2 : Session) (number2 : ℕ) (buffer2 : List ℕ) (p2 : Pending) (output : List ℕ) (n : ℕ) : Type 0 where
  pub further : 0 < length piece → length rest < length piece
  pub fits : n ≤ length output
  pub prints : Prints (take n output) piece s number buffer p rest s2 number2 buffer2 p2

-- Some bytes are printed through a whole piece.
abbrev pub Through : Session → ℕ → List ℕ → Pending → List ℕ → Session → ℕ → List ℕ → Pending → Type 0
Through s number buffer p piece s2 number2 buffer2 p2 =
    (first : List ℕ) × ((rest printed : List ℕ) → Run s2 number2 buffer2 p2 rest printed → Run s number buffer p (piece ++ rest) (first ++ printed))
