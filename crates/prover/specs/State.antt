-- What a session holds: the held rows of its tables as lists, and the book that they are. Rows past a count are the program's
-- choice: no definition reads them, and no call judges them.
use Rattle.std.specs.Prelude.{List, ℕ, get_or}
use Rattle.atoms.specs.Words.{row_of}
use Rattle.ipl.specs.Lists.{tabulate}
use Rattle.ipl.specs.Clause.{Flat, Implication}
use Rattle.ipl.specs.Search.{Step}
use Rattle.ipl.specs.Marks.{Mark}
use Rattle.ipl.specs.Book.{Book}
use Rattle.sat.specs.Table.{clauses}
use Rattle.prover.specs.declared.Flats.{Flats}
use Rattle.prover.specs.declared.Implications.{Implications}
use Rattle.prover.specs.declared.Steps.{Steps}
use Rattle.prover.specs.declared.Worlds.{Worlds}
use Rattle.prover.specs.declared.Implication as code_implication
use Rattle.prover.specs.declared.Mark as code
use Rattle.prover.specs.declared.Marks.{Marks}
use Rattle.prover.specs.declared.Session.{Session}

-- Row i of a column of bytes.
abbrev pub byte_at : List ℕ → ℕ → ℕ
byte_at table i = get_or table i 0

-- The implication that the code's three bytes are.
abbrev pub implication_of : code_implication.Implication → Implication
implication_of i = record { a = i.a; b = i.b; c = i.c }

-- Row i of each table.
abbrev pub implication_row : Implications → ℕ → Implication
implication_row t i = implication_of (get_or t.rows i (record { a = 0; b = 0; c = 0 }))

abbrev pub step_row : Steps → ℕ → Step
step_row t i = record { number = byte_at t.numbers i; assumed = row_of t.assumed i }

abbrev pub mark_of : code.Mark → Mark
mark_of m = record { number = m.number; flats = m.flats; implications = m.implications; steps = m.steps }

abbrev pub mark_row : Marks → ℕ → Mark
mark_row t i = mark_of (get_or t.rows i (record { number = 0; flats = 0; implications = 0; steps = 0 }))

-- The held rows.
abbrev pub flats_of : Flats → List Flat
flats_of t = clauses t.left t.right t.count

abbrev pub implications_of : Implications → List Implication
implications_of t = tabulate (implication_row t) t.count

abbrev pub steps_of : Steps → List Step
steps_of t = tabulate (step_row t) t.count

abbrev pub worlds_of : Worlds → List ℕ
worlds_of t = tabulate (row_of t.sets) t.count

abbrev pub marks_of : Marks → List Mark
marks_of t = tabulate (mark_row t) t.count

-- The book of n atoms that tables hold, and that of a session.
abbrev pub book_of : ℕ → Flats → Implications → Steps → Marks → Book
book_of n flats implications steps marks =
    record { n = n; flats = flats_of flats; implications = implications_of implications; steps = steps_of steps; marks = marks_of marks }

abbrev pub book : Session → Book
book s = book_of s.n s.flats s.implications s.steps s.marks
