-- A question from the session's rows to its answer.
use Rattle.std.specs.Prelude.{ℕ}
use Rattle.ipl.specs.Search.{State, Outcome, search}
use Rattle.prover.specs.State.{flats_of, implications_of, steps_of}
use Rattle.prover.specs.Calls.{Given, Searched}
use Rattle.prover.specs.Told.{Told, Answered}
use Rattle.prover.specs.declared.Held.{Held}
use Rattle.prover.specs.declared.Session.{Session}

-- The whole search over the session's clauses.
abbrev pub whole : Session → ℕ → Outcome
whole s g = search s.n (flats_of s.flats) (implications_of s.implications) g (steps_of s.steps)

-- The answer r to author a, with the verdict v, held as h, after s and a search that ended there.
abbrev pub Concluded : Session → ℕ → State → Told → Held → Answered → Type 0
Concluded s a end v h r = Given v h end r × Searched s a end r.session
