-- The work of authors (document 02, change 7): which goals of a list of calls were decided, who put them, and with how many questions.
use Rattle.std.specs.Prelude.{Bool, cond, List, [], ◌∷◌, ◌++◌, ℕ, ◌+◌, eqb}
use Rattle.ipl.specs.Lists.{keep}
use Rattle.ipl.specs.Search.{Outcome, valid, refuted, refused, unfinished}
use Rattle.ipl.specs.Page.{Entry, searched, refuted_by}
use Rattle.ipl.specs.Book.{Book, Call, add, question, set_mark, return_to, page, answer_to, entries, refusal, next}

-- A goal that got a verdict: its author, and "the classical questions of points 1 and 3" in its run.
pub record Decided : Type 0 where
  pub author : ℕ
  pub questions : ℕ

-- Of author a, by what the goal's run came to: only one "that ended in a verdict" counts.
abbrev pub decided_as : ℕ → Outcome → List Decided
decided_as a (valid end) = record { author = a; questions = end.questions } ∷ []
decided_as a (refuted end) = record { author = a; questions = end.questions } ∷ []
decided_as a (refused number) = []
decided_as a unfinished = []

-- "A goal answered in a page without a search counts as a verdict of no questions."
abbrev pub decided_for : ℕ → Entry → List Decided
decided_for a (searched o) = decided_as a o
decided_for a (refuted_by j) = record { author = a; questions = 0 } ∷ []

-- On a page, goal after goal.
unfoldable pub decided_on : ℕ → List Entry → List Decided
decided_on a [] = []
decided_on a (e ∷ es) = decided_for a e ++ decided_on a es

-- By a call that is put to the book k.
unfoldable pub decided_by : Book → Call → List Decided
decided_by k (add x) = []
decided_by k (question a g) = decided_as a (answer_to k a g)
decided_by k (set_mark j) = []
decided_by k (return_to j) = []
decided_by k (page a gs) = cond (eqb (refusal k (page a gs)) 0) (decided_on a (entries k gs)) []

-- By a list of calls: "all runs, put to the session since its opening as questions or in pages, that ended in a verdict".
unfoldable pub decided : Book → List Call → List Decided
decided k [] = []
decided k (c ∷ cs) = decided_by k c ++ decided (next k c) cs

-- Those of author a.
abbrev pub is_of : ℕ → Decided → Bool
is_of a d = eqb d.author a

abbrev pub of_author : ℕ → List Decided → List Decided
of_author a D = keep (is_of a) D

-- Their questions together.
unfoldable pub questions_of : List Decided → ℕ
questions_of [] = 0
questions_of (d ∷ D) = d.questions + questions_of D
