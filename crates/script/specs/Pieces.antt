-- The contracts by which a script is read piece by piece: the line that has begun, a step of the gathering, and a line's answer.
use Rattle.std.specs.Prelude.{Bool, List, ◌∷◌, ◌++◌, ◌≡◌, ℕ, ◌<◌, ◌≤◌, length, take, drop, Option, None, Some, MatchOption, ⊤}
use Rattle.ipl.specs.Lists.{All}
use Rattle.prover.specs.declared.Session.{Session}
use Rattle.text.specs.declared.draft.Draft.{Draft}
use Rattle.text.specs.Output.{Begins}
use Rattle.script.specs.Words.{line_feed}
use Rattle.script.specs.Command.{Line, line_of, is_blank}
use Rattle.script.specs.Reading.{meaning, Inside}
use Rattle.script.specs.Answer.{LineDone, Answer, Writes, Adds, line_room}
use Rattle.script.specs.declared.Pending.{Pending}
use Rattle.script.specs.declared.reading.Call.{Call}

-- No byte of these ends a line.
abbrev pub OneLine : List ℕ → Type 0
OneLine = All (λ b. b ≡ line_feed → ⊥)

-- The line that has begun with these bytes: as many of them as there is room for stand in the buffer.
pub record Begun (bytes buffer : List ℕ) (p : Pending) : Type 0 where
  pub room : length buffer ≡ line_room
  pub kept : Begins bytes buffer p.length
  pub blank : p.blank ≡ is_blank bytes
  pub one : OneLine bytes

-- The line that has begun with any bytes goes on with these, which end no line.
abbrev pub Longer : List ℕ → List ℕ → Pending → List ℕ → Pending → Type 0
Longer more before p after r = (bytes : List ℕ) → Begun bytes before p → OneLine more → Begun (bytes ++ more) after r

-- The call that a line is, from as many of its bytes as there is room for, and whether all of them are spaces.
pub record CallIs (kept : List ℕ) (blank : Bool) (r : Call) : Type 0 where
  pub inside : Inside kept r
  pub is : (line : List ℕ) → kept ≡ take line_room line → blank ≡ is_blank line → meaning r ≡ line_of line

-- The line that has begun ends in the bytes of a piece, and these follow its end.
pub record Ends (bytes piece buffer : List ℕ) (p : Pending) (rest : List ℕ) : Type 0 where
  pub end : List ℕ
  pub one : OneLine end
  pub cut : piece ≡ end ++ line_feed ∷ rest
  pub begun : Begun (bytes ++ end) buffer p

-- No line ends there, and all of those bytes join it.
pub record GoesOn (bytes piece buffer : List ℕ) (p : Pending) : Type 0 where
  pub one : OneLine piece
  pub begun : Begun (bytes ++ piece) buffer p

abbrev pub GatheredAs : List ℕ → List ℕ → List ℕ → Pending → Option (List ℕ) → Type 0
GatheredAs bytes piece buffer p None = GoesOn bytes piece buffer p
GatheredAs bytes piece buffer p (Some rest) = Ends bytes piece buffer p rest

-- A step of the gathering, to the end of a line or of the piece: less of the piece is left.
pub record GatheredFrom (piece before : List ℕ) (p : Pending) (after : List ℕ) (q : Pending) (r : Option (List ℕ)) : Type 0 where
  pub further : MatchOption r ⊤ (λ rest. length rest < length piece)
  pub does : (bytes : List ℕ) → Begun bytes before p → GatheredAs bytes piece after q r

-- Such a step, and what is left is an end of the piece, whatever the buffer held.
pub record GatheredWithin (piece before : List ℕ) (p : Pending) (after : List ℕ) (q : Pending) (r : Option (List ℕ)) : Type 0 where
  pub inside : MatchOption r ⊤ (λ rest. (at : ℕ) × (at ≤ length piece) × (rest ≡ drop at piece))
  pub step : GatheredFrom piece before p after q r

-- A line is answered: the one that has begun, where there is one.
pub record Answers (s : Session) (number : ℕ) (buffer : List ℕ) (p : Pending) (entry exit : List ℕ) (r : Answer) : Type 0 where
  pub line : Line
  pub does : Writes (LineDone s number line) entry exit r
  pub of : (bytes : List ℕ) → Begun bytes buffer p → line ≡ line_of bytes

-- The same in a draft.
pub record Answered (s : Session) (number : ℕ) (buffer : List ℕ) (p : Pending) (before after : Draft) (r : Session) : Type 0 where
  pub line : Line
  pub does : Adds (LineDone s number line) before after r
  pub of : (bytes : List ℕ) → Begun bytes buffer p → line ≡ line_of bytes
