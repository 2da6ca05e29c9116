-- What each task of the exported function gives.
use Rattle.std.specs.Prelude.{List, [], ◌∷◌, ◌≡◌, ℕ, zero, suc, ◌<◌, length, Result, MatchResult}
use Rattle.std.specs.Result.{result_unwrap_or}
use Rattle.refusal.specs.declared.Refusal.{Refusal}
use Rattle.certificate.specs.Judge.{judge}
use Rattle.text.specs.Output.{Gives}
use Rattle.judgement.specs.Report.{check_report}
use Rattle.report.specs.Printed.{printed, sheet}
use Rattle.report.specs.Screening.{screen_line}
use Rattle.zestanchor.specs.declared.Task.{Task}
use Rattle.zestanchor.specs.declared.Task.TheVariants as task
use Rattle.zestanchor.specs.declared.NoTask.{NoTask}

abbrev pub size_of : Result ℕ Refusal → ℕ
size_of r = result_unwrap_or r 0

abbrev pub or_else : List ℕ → List ℕ → List ℕ
or_else [] other = other
or_else (b ∷ bytes) other = b ∷ bytes

-- The sheet of a text's verdict; where there is none, what is printed of the text, which is the line of its refusal.
unfoldable pub certified : List ℕ → List ℕ
certified s = or_else (sheet s) (printed s)

-- No length of anything that is written.
abbrev pub no_task : ℕ
no_task = 18446744073709551615

abbrev pub task_number : Task → ℕ
task_number task.Settle = 0
task_number task.Certify = 1
task_number task.Check = 2
task_number task.Length = 3
task_number task.Screen = 4

-- The task of a number, or none.
abbrev pub TaskOf : ℕ → Result Task NoTask → Type 0
TaskOf number r = MatchResult r (λ t. task_number t ≡ number) (λ _. 4 < number)

-- 0: the report of a text. 1: the sheet of its verdict, or its refusal. 2: the report of a checked sheet. 3: how long what task 1
-- gives is, and nothing is written. 4: the screen of a text. There is no other task.
abbrev pub Done : ℕ → List ℕ → List ℕ → List ℕ → ℕ → Type 0
Done zero input entry exit r = Gives (printed input) entry exit r
Done (suc zero) input entry exit r = Gives (certified input) entry exit r
Done (suc (suc zero)) input entry exit r = Gives (check_report (judge input)) entry exit r
Done (suc (suc (suc zero))) input entry exit r = (r ≡ length (certified input)) × (exit ≡ entry)
Done (suc (suc (suc (suc zero)))) input entry exit r = Gives (screen_line input) entry exit r
Done (suc (suc (suc (suc (suc task))))) input entry exit r = (r ≡ no_task) × (exit ≡ entry)
