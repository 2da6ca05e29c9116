-- The work of authors (document 02, change 7): "one count per author .. and one number of verdicts per author likewise".
use Rattle.std.specs.Prelude.{List, [], ◌∷◌, ℕ, ◌+◌, min, get_or, set}
use Rattle.ipl.specs.Lists.{tabulate}
use Rattle.ipl.specs.Authors.{author_table}
use Rattle.ipl.specs.Work.{Decided}
use Rattle.prover.specs.declared.Work.{Work}
use Rattle.prover.specs.declared.Authors.{Authors}

-- "Each staying at 4,294,967,295."
abbrev pub most_work : ℕ
most_work = 4294967295

abbrev pub staying : ℕ → ℕ
staying number = min number most_work

-- The work of author a; none where there is no row for a.
abbrev pub no_work : Work
no_work = record { questions = 0; verdicts = 0 }

abbrev pub work_at : List Work → ℕ → Work
work_at W a = get_or W a no_work

-- A row for each author.
abbrev pub works_of : Authors → List Work
works_of t = tabulate (work_at t.rows) author_table

abbrev pub none_done : List Work
none_done = tabulate (λ a. no_work) author_table

-- The work with a goal more, decided after this many questions.
abbrev pub more_work : Work → ℕ → Work
more_work w questions = record { questions = staying (w.questions + questions); verdicts = staying (w.verdicts + 1) }

-- A goal was decided: "other authors' calls change neither number".
abbrev pub with_decided : List Work → Decided → List Work
with_decided W d = set W d.author (more_work (work_at W d.author) d.questions)

-- Goals were decided, one after the other.
unfoldable pub with_all : List Work → List Decided → List Work
with_all W [] = W
with_all W (d ∷ D) = with_all (with_decided W d) D
