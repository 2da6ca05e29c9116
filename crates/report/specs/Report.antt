-- The lines of the report (document 01: "prints the verdict; then atoms, questions and learned steps; then steps or worlds").
use Rattle.std.specs.Prelude.{List, ◌++◌, ℕ, eqb, length}
use Rattle.ipl.specs.Search.{Step}
use Rattle.ipl.specs.Authors.{program}
use Rattle.prover.specs.State.{steps_of, worlds_of}
use Rattle.prover.specs.Work.{work_at, works_of}
use Rattle.prover.specs.declared.Session.{Session}
use Rattle.prover.specs.Told.{Told, Valid, Refuted, Refused, told}
use Rattle.clausify.specs.declared.Settled.{Settled}
use Rattle.certificate.specs.Format.{each}
use Rattle.text.specs.Text.{ascii, labelled, refusal}

-- "Atoms, questions and learned steps."
unfoldable pub figures : ℕ → ℕ → ℕ → List ℕ
figures n questions learned = labelled "atoms " n ++ labelled " questions " questions ++ labelled " learned " learned ++ ascii "\n"

-- "A step is a line `step 0 1`: implication number, then A."
unfoldable pub step_line : Step → List ℕ
step_line s = labelled "step " s.number ++ labelled " " s.assumed ++ ascii "\n"

-- "A world is a line `world 25`."
unfoldable pub world_line : ℕ → List ℕ
world_line w = labelled "world " w ++ ascii "\n"

-- The refusal of a text has a place where its number is 3.
abbrev pub text_refusal : ℕ → ℕ → List ℕ
text_refusal number place = refusal (eqb number 3) number place

unfoldable pub valid_report : ℕ → ℕ → List Step → List ℕ
valid_report n questions S = ascii "valid\n" ++ figures n questions (length S) ++ each step_line S

unfoldable pub refuted_report : ℕ → ℕ → ℕ → List ℕ → List ℕ
refuted_report n questions learned W = ascii "refuted\n" ++ figures n questions learned ++ each world_line W

-- The report of a verdict and the session that holds it, with so many questions. A row past its table's end counts as empty.
abbrev pub report_with : ℕ → Told → Session → List ℕ
report_with questions (Valid steps) s = valid_report s.n questions (steps_of s.steps)
report_with questions (Refuted worlds) s = refuted_report s.n questions (length (steps_of s.steps)) (worlds_of s.worlds)
report_with questions (Refused number place) s = text_refusal number place

-- To author a: with that author's count.
abbrev pub report_by : Told → Session → ℕ → List ℕ
report_by v s a = report_with (work_at (works_of s.authors) a).questions v s

-- "The program is 0."
abbrev pub report_of : Settled → List ℕ
report_of r = report_by (told r.verdict) r.session program
