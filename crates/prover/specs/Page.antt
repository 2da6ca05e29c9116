-- The contract of a page of goals: what its records and the session hold next, refused or not.
use Rattle.std.specs.Prelude as code
use Rattle.std.specs.Prelude.{cond, List, [], ◌∷◌, ◌++◌, map, ◌≡◌, ℕ, suc, get_or}
use Rattle.std.proofs.Math.Option.{Option, none, some}
use Rattle.refusal.specs.Numbers.{number_of}
use Rattle.refusal.specs.declared.Refusal.{Refusal}
use Rattle.atoms.specs.Words.{row_of}
use Rattle.ipl.specs.Lists.{tabulate}
use Rattle.ipl.specs.Page.{Found, earliest}
use Rattle.ipl.specs.Book.{page_refusal}
use Rattle.prover.specs.State.{book}
use Rattle.prover.specs.Work.{works_of, with_decided}
use Rattle.prover.specs.Calls.{number, VerdictKept, Asked}
use Rattle.prover.specs.declared.Worlds.{Worlds}
use Rattle.prover.specs.Told as verdict
use Rattle.prover.specs.Told.{Told, Changed, Answered}
use Rattle.prover.specs.declared.Session.{Session}
use Rattle.prover.specs.declared.GoalAnswer.{GoalAnswer}
use Rattle.prover.specs.declared.GoalAnswer.TheVariants as goal
use Rattle.prover.specs.declared.GoalRecord.{GoalRecord}
use Rattle.prover.specs.declared.paging.Models.{Models}

-- ---- refusals

abbrev pub goals_of : List GoalRecord → List ℕ
goals_of xs = map (λ (x : GoalRecord). x.goal) xs

-- 5, or the number that the book has for author a and the goals.
abbrev pub page_number : Session → ℕ → List ℕ → ℕ
page_number s a gs = number s (page_refusal (book s) a gs)

-- ---- records

-- The record x with an answer that has no worlds: none is counted, and their rows stay as they were.
abbrev pub with_answer : GoalRecord → GoalAnswer → GoalRecord
with_answer x a = record { goal = x.goal; answer = a; worlds = record { count = 0; sets = x.worlds.sets } }

-- The record x is y after its own search, which came to this verdict: "the record of one refuted by its own search holds the worlds"; "a
-- goal that meets 11 or 12 has that in its record".
abbrev pub RecordAfter : GoalRecord → Told → Worlds → GoalRecord → Type 0
RecordAfter x (verdict.Valid steps) W y = y ≡ with_answer x (goal.Valid steps)
RecordAfter x (verdict.Refuted worlds) W y = y ≡ record { goal = x.goal; answer = goal.Refuted worlds; worlds = W }
RecordAfter x (verdict.Refused number place) W y = (e : Refusal) × (number_of e ≡ number) × (y ≡ with_answer x (goal.Refused e))

-- The model that a record at place i holds, if it holds one.
abbrev pub found_for : ℕ → GoalAnswer → Worlds → List Found
found_for i goal.Open W = []
found_for i (goal.Valid steps) W = []
found_for i (goal.Refuted worlds) W = record { place = i; root = row_of W.sets 0 } ∷ []
found_for i (goal.RefutedBy j) W = []
found_for i (goal.Refused e) W = []

abbrev pub found_in : ℕ → GoalRecord → List Found
found_in i y = found_for i y.answer y.worlds

-- The table of models, and an answer from it.
abbrev pub model_row : Models → ℕ → Found
model_row t i = record { place = get_or t.places i 0; root = row_of t.roots i }

abbrev pub models_of : Models → List Found
models_of t = tabulate (model_row t) t.count

abbrev pub model_found : code.Option ℕ → Option ℕ
model_found (code.Some place) = some place
model_found code.None = none

-- ---- the contract

-- "A goal answered in a page without a search counts as a verdict of no questions": the session t is otherwise what s was.
abbrev pub Counted : Session → ℕ → Session → Type 0
Counted s a t = (book t ≡ book s) × VerdictKept (with_decided (works_of s.authors) (record { author = a; questions = 0 })) s t

-- The goal of x, put to s by author a, makes of its record y and of the session t: refuted by the model of the goal at place j, or a
-- question.
abbrev pub GoalBy : Option ℕ → Session → ℕ → GoalRecord → GoalRecord → Session → Type 0
GoalBy (some j) s a x y t = (y ≡ with_answer x (goal.RefutedBy j)) × Counted s a t
GoalBy none s a x y t = (r : Answered) × Asked s a x.goal r × RecordAfter x r.verdict r.session.worlds y × (t ≡ r.session)

-- Where these models were found before it.
abbrev pub GoalDone : Session → ℕ → List Found → GoalRecord → GoalRecord → Session → Type 0
GoalDone s a M x y t = GoalBy (earliest x.goal M) s a x y t

-- "Goals are taken in order": the records from the place i on become these, and the session becomes t.
abbrev pub GoalsDone : Session → ℕ → List Found → ℕ → List GoalRecord → List GoalRecord → Session → Type 0
GoalsDone s a M i [] [] t = t ≡ s
GoalsDone s a M i [] (y ∷ ys) t = ⊥
GoalsDone s a M i (x ∷ xs) [] t = ⊥
GoalsDone s a M i (x ∷ xs) (y ∷ ys) t = (u : Session) × GoalDone s a M x y u × GoalsDone u a (M ++ found_in i y) (suc i) xs ys t

-- The contract of a page of author a: xs are the lent records before it, ys what they hold next.
pub record PageAnswered (s : Session) (a : ℕ) (xs ys : List GoalRecord) (r : Changed) : Type 0 where
  pub refused : r.refusal ≡ page_number s a (goals_of xs)
  pub unchanged : (page_number s a (goals_of xs) ≡ 0 → ⊥) → (r.session ≡ s) × (ys ≡ xs)
  pub done : page_number s a (goals_of xs) ≡ 0 → GoalsDone s a [] 0 xs ys r.session
