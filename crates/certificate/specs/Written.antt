-- The certificate of a verdict: what is written of a question put to a book.
use Rattle.std.proofs.Math.Option.{Option, none, some}
use Rattle.std.specs.Prelude.{ℕ}
use Rattle.ipl.specs.Search as search
use Rattle.ipl.specs.Search.{Outcome}
use Rattle.ipl.specs.Book.{Book, steps_after}
use Rattle.certificate.specs.Certificate.{Problem, Claim, valid, refuted}

-- The clauses held, and the goal.
abbrev pub problem_of_book : Book → ℕ → Problem
problem_of_book k g = record { n = k.n; flats = k.flats; implications = k.implications; goal = g }

-- "Either .. all held steps, or .. worlds"; without a verdict there is none.
unfoldable pub claim_of_verdict : Book → Outcome → Option Claim
claim_of_verdict k (search.valid s) = some (valid (steps_after k.steps (search.valid s)))
claim_of_verdict k (search.refuted s) = some (refuted s.worlds)
claim_of_verdict k (search.refused number) = none
claim_of_verdict k search.unfinished = none
