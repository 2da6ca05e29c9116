-- Demands 2 and 3 for texts: what a verdict on a text says of its formula, and that every run of calls on its session follows its book.
use Rattle.std.specs.Prelude.{List, ◌∷◌, map, ◌⊎◌, ◌≡◌, ℕ}
use Rattle.ipl.specs.Authors.{program}
use Rattle.ipl.specs.Book as B
use Rattle.ipl.specs.Book.{Book, answer, next}
use Rattle.ipl.specs.Work.{decided}
use Rattle.ipl.specs.Kripke.{Model, IsModel, forces_atom, Forces, shown}
use Rattle.prover.specs.State.{worlds_of}
use Rattle.prover.specs.Calls.{VerdictIs}
use Rattle.prover.specs.Work.{works_of}
use Rattle.prover.specs.Demand.{Made, call_of, Run, end_of, Follows}
use Rattle.prover.specs.Counts.{WorkRight, CountsFrom}
use Rattle.prover.specs.declared.Session.{Session}
use Rattle.prover.specs.Told.{Told, Valid, Refuted, Refused, told, answered}
use Rattle.ipl.specs.Formula.{Formula}
use Rattle.syntax.specs.Grammar.{Reads}
use Rattle.syntax.specs.Nodes.{Entry, letter, index_of, nodes}
use Rattle.syntax.specs.Refusal as text
use Rattle.syntax.specs.Judge.{Judgement, refused, accepted, judge}
use Rattle.clausify.specs.Naming.{atom_at, text_book, goal_of}
use Rattle.clausify.specs.Calls.{ClausifiedAs, SettledAs}
use Rattle.clausify.specs.declared.Clausified.{Clausified}
use Rattle.clausify.specs.declared.Settled.{Settled}

-- A model of atoms "read on the letters": each letter of the table is forced where its atom is.
abbrev pub on_letters : List Entry → Model → Model
on_letters T m = record { count = m.count; root = m.root; le = m.le; holds = λ w l. forces_atom m w (atom_at T (index_of (letter l) T)) }

-- The worlds shown, read on the letters, are a model whose root does not force the formula.
pub record Refutes (f : Formula) (W : List ℕ) : Type 0 where
  pub model : IsModel (on_letters (nodes f).table (shown W))
  pub unforced : Forces (on_letters (nodes f).table (shown W)) 0 f → ⊥

-- Valid: the root of every finite Kripke model forces the formula. Refuted: the worlds shown refute it. Refused: a refusal of
-- the text, or the search met 11 or 12.
abbrev pub Says : List ℕ → Told → List ℕ → Type 0
Says s (Valid steps) W = (f : Formula) × Reads s f × ((m : Model) → IsModel m → Forces m m.root f)
Says s (Refuted worlds) W = (f : Formula) × Reads s f × Refutes f W
Says s (Refused number place) W = text.Refused s number place ⊎ ((f : Formula) × text.Accepted s f × ((number ≡ 11) ⊎ (number ≡ 12)))

-- For every text, and every answer as the contract states it.
abbrev pub DemandTwo : Type 0
DemandTwo = (s : List ℕ) (r : Settled) → SettledAs (judge s) r → Says s (told r.verdict) (worlds_of r.session.worlds)

-- "A text's session holds what an opening with its n and the additions of its clauses .. would bring": the book of a text; a refused
-- one has that of the empty session of one atom.
abbrev pub book_of : Judgement → Book
book_of (refused number place) = B.opened 1
book_of (accepted f) = text_book f

-- Every run of calls on the session follows the book.
abbrev pub EveryRunFollows : Book → Session → Type 0
EveryRunFollows k s = (cs : List Made) (run : Run s cs) → Follows k s cs run

-- The verdict is the answer of the text's book to its goal, and the session follows the book that the question leaves.
abbrev pub SettledFollows : Judgement → Settled → Type 0
SettledFollows (refused number place) r = EveryRunFollows (B.opened 1) r.session
SettledFollows (accepted f) r =
    VerdictIs (goal_of f) (answer (text_book f) (goal_of f)) (answered r.verdict r.session)
    × EveryRunFollows (next (text_book f) (B.question program (goal_of f))) r.session

-- The goals decided since are the text's own, which the program put, and those of the run.
abbrev pub SettledCounts : Judgement → Settled → Type 0
SettledCounts (refused number place) r = CountsFrom (B.opened 1) r.session
SettledCounts (accepted f) r = (cs : List Made) (run : Run r.session cs)
    → WorkRight (decided (text_book f) (B.question program (goal_of f) ∷ map call_of cs)) (works_of (end_of r.session cs run).authors)

-- "So demand 3 reaches it": for every text, refused or not, the session of its clauses, and the one that its verdict came with.
pub record DemandThree (s : List ℕ) : Type 0 where
  pub clausified : (r : Clausified) → ClausifiedAs (judge s) r → EveryRunFollows (book_of (judge s)) r.session
  pub settled : (r : Settled) → SettledAs (judge s) r → SettledFollows (judge s) r
  pub clausified_counts : (r : Clausified) → ClausifiedAs (judge s) r → CountsFrom (book_of (judge s)) r.session
  pub settled_counts : (r : Settled) → SettledAs (judge s) r → SettledCounts (judge s) r
