-- The counts of authors over every run of the session's calls, beside demand 3 (document 02, change 7).
use Rattle.std.specs.Prelude.{List, [], ◌∷◌, map, ◌≡◌, ℕ, ◌+◌, ◌*◌, ◌<◌, length}
use Rattle.ipl.specs.Lists.{All}
use Rattle.ipl.specs.Authors.{author_table}
use Rattle.ipl.specs.Book.{Book, opened}
use Rattle.ipl.specs.Work.{Decided, decided, of_author, questions_of}
use Rattle.prover.specs.Work.{most_work, staying, work_at, works_of}
use Rattle.prover.specs.Calls.{Opened, mean_told}
use Rattle.prover.specs.Demand.{Made, call_of, Run, end_of}
use Rattle.prover.specs.declared.Work.{Work}
use Rattle.prover.specs.PerVerdict.{PerVerdict, Questions, Refused}
use Rattle.prover.specs.declared.Session.{Session}
use Rattle.prover.specs.Told.{Changed}

-- The work that these goals are: their questions and their number, as far as each does not stay.
abbrev pub work_on : List Decided → Work
work_on D = record { questions = staying (questions_of D); verdicts = staying (length D) }

-- A number of each row, together.
unfoldable pub together : (Work → ℕ) → List Work → ℕ
together f [] = 0
together f (w ∷ W) = f w + together f W

-- Of the work W of the authors, D being the goals decided since the opening.
pub record WorkRight (D : List Decided) (W : List Work) : Type 0 where
  -- Each author's two numbers are those of the author's own goals; "other authors' calls change neither".
  pub each : (a : ℕ) → a < author_table → work_at W a ≡ work_on (of_author a D)
  -- "Until one stays, the counts together are the classical questions .. in all runs .. that ended in a verdict",
  pub all_questions : All (λ w. w.questions < most_work) W → together (λ w. w.questions) W ≡ questions_of D
  -- "and one number of verdicts per author likewise."
  pub all_verdicts : All (λ w. w.verdicts < most_work) W → together (λ w. w.verdicts) W ≡ length D

-- Of every run of calls on the session s, which holds the book k.
abbrev pub CountsFrom : Book → Session → Type 0
CountsFrom k s = (cs : List Made) (run : Run s cs) → WorkRight (decided k (map call_of cs)) (works_of (end_of s cs run).authors)

-- For every n and every opening.
abbrev pub CountsRight : Type 0
CountsRight = (n : ℕ) (o : Changed) → Opened n o → CountsFrom (opened n) o.session

-- What is told of the work w: the mean times the verdicts and the remainder are the questions, and the remainder is smaller than the
-- number of verdicts.
abbrev pub IsMean : Work → PerVerdict → Type 0
IsMean w (Questions whole remainder) = (whole * w.verdicts + remainder ≡ w.questions) × (remainder < w.verdicts)
IsMean w (Refused number) = Unit {0}

-- "For an author the mean is given as whole questions per verdict and the exact remainder": of every session and every number.
abbrev pub MeanExact : Type 0
MeanExact = (s : Session) (a : ℕ) → IsMean (work_at (works_of s.authors) a) (mean_told s a)
