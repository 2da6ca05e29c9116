-- The contracts of the calls on texts: number and place of a refusal, the session and the goal, refused or not.
use Rattle.std.specs.Prelude.{◌≡◌, ℕ, IsOk}
use Rattle.ipl.specs.Clause.{bot}
use Rattle.ipl.specs.Authors.{program}
use Rattle.ipl.specs.Book.{opened}
use Rattle.prover.specs.State.{book}
use Rattle.prover.specs.Work.{none_done}
use Rattle.prover.specs.Calls.{NothingHeld, Asked}
use Rattle.prover.specs.declared.Session.{Session}
use Rattle.prover.specs.Told as verdict
use Rattle.prover.specs.Told.{number_in, place_in, told, answered}
use Rattle.ipl.specs.Formula.{Formula}
use Rattle.syntax.specs.Judge.{Judgement, refused, accepted}
use Rattle.clausify.specs.Naming.{text_book, goal_of}
use Rattle.clausify.specs.declared.Clausified.{Clausified}
use Rattle.clausify.specs.declared.Settled.{Settled}

-- The session and the goal of a text that reads as f.
pub record Holds (f : Formula) (s : Session) (g : ℕ) : Type 0 where
  pub clauses : book s ≡ text_book f
  pub nothing : NothingHeld none_done s
  pub goal : g ≡ goal_of f

-- "A refused opening or text gives the empty session of one atom, and a refused text the goal 255."
pub record HoldsNothing (s : Session) (g : ℕ) : Type 0 where
  pub clauses : book s ≡ opened 1
  pub nothing : NothingHeld none_done s
  pub goal : g ≡ bot

-- By the judgement of the text.
abbrev pub ClausifiedAs : Judgement → Clausified → Type 0
ClausifiedAs (refused number place) r = (number_in r.read ≡ number) × (place_in r.read ≡ place) × HoldsNothing r.session r.goal
ClausifiedAs (accepted f) r = IsOk r.read × Holds f r.session r.goal

-- A refused text is answered with its refusal; else the program asks its goal of its session.
abbrev pub SettledAs : Judgement → Settled → Type 0
SettledAs (refused number place) r = (told r.verdict ≡ verdict.Refused number place) × HoldsNothing r.session r.goal
SettledAs (accepted f) r = (s : Session) × Holds f s r.goal × Asked s program r.goal (answered r.verdict r.session)
