-- A formula that falls is never answered valid, for every text: by the answers of the calls, and by the bytes printed.
use Rattle.std.specs.Prelude.{List, ◌++◌, ◌≡◌, ℕ, Result, Ok}
use Rattle.prover.specs.declared.Verdict.TheVariants.{Valid}
use Rattle.syntax.specs.Judge.{judge}
use Rattle.fork.specs.Screen.{screening}
use Rattle.fork.specs.Answer.{ScreenedAs}
use Rattle.fork.specs.declared.LetterSets.{LetterSets}
use Rattle.fork.specs.declared.Screened.{Screened}
use Rattle.fork.specs.declared.Screened.TheVariants.{Falls}
use Rattle.refusal.specs.declared.Refusal.{Refusal}
use Rattle.clausify.specs.Calls.{SettledAs}
use Rattle.clausify.specs.declared.Settled.{Settled}
use Rattle.text.specs.Text.{ascii}
use Rattle.report.specs.Printed.{printed}
use Rattle.report.specs.Screening.{falls_line, screen_line}

-- Of every answer to the screen of a text and every answer to its settling, as the contracts state them.
abbrev pub FallsNeverValid : Type 0
FallsNeverValid = (s : List ℕ) (r : Result Screened Refusal) (q : Settled) → ScreenedAs (screening (judge s)) r → SettledAs (judge s) q
    → (sets : LetterSets) → r ≡ Ok (Falls sets) → (steps : ℕ) → q.verdict ≡ Ok (Valid steps) → ⊥

-- A text whose screen prints `falls ..` has no report that begins with the line `valid`.
abbrev pub FallsNeverPrintedValid : Type 0
FallsNeverPrintedValid = (s sets : List ℕ) → screen_line s ≡ falls_line sets → (rest : List ℕ) → printed s ≡ ascii "valid\n" ++ rest → ⊥
