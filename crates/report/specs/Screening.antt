-- What is printed of a screened text: `passes`, `falls V1 ..`, `refused K` or `refused 3 at P`.
use Rattle.std.specs.Prelude.{List, ◌++◌, ◌≡◌, ℕ, Result}
use Rattle.syntax.specs.Judge.{judge}
use Rattle.fork.specs.Screen as fork
use Rattle.fork.specs.Screen.{Screening, screening}
use Rattle.fork.specs.Answer.{told, Says}
use Rattle.fork.specs.declared.Screened.{Screened}
use Rattle.refusal.specs.declared.Refusal.{Refusal}
use Rattle.certificate.specs.Format.{each}
use Rattle.text.specs.Text.{ascii, labelled}
use Rattle.report.specs.Report.{text_refusal}

-- The number of a set.
unfoldable pub set_figure : ℕ → List ℕ
set_figure s = labelled " " s

unfoldable pub falls_line : List ℕ → List ℕ
falls_line sets = ascii "falls" ++ each set_figure sets ++ ascii "\n"

unfoldable pub passes_line : List ℕ
passes_line = ascii "passes\n"

abbrev pub screening_line : Screening → List ℕ
screening_line (fork.refused number place) = text_refusal number place
screening_line fork.passes = passes_line
screening_line (fork.falls sets) = falls_line sets

-- Of the call's answer.
abbrev pub screened_line : Result Screened Refusal → List ℕ
screened_line r = screening_line (told r)

-- From the text's bytes.
abbrev pub screen_line : List ℕ → List ℕ
screen_line s = screening_line (screening (judge s))

-- The line printed of a text is that of what is told of it, and that is so.
abbrev pub ScreenPrinted : List ℕ → Type 0
ScreenPrinted s = (o : Screening) × (screen_line s ≡ screening_line o) × Says s o
