-- Demand 2 for the session of a text: what is written of it after any later calls.
use Rattle.std.specs.Prelude.{List, ◌∷◌, map, ℕ, Result}
use Rattle.std.proofs.Math.Option.{none}
use Rattle.refusal.specs.declared.Refusal.{Refusal}
use Rattle.ipl.specs.Authors.{program}
use Rattle.ipl.specs.Book as B
use Rattle.ipl.specs.Book.{opened}
use Rattle.prover.specs.Demand.{Made, call_of, Run, end_of}
use Rattle.syntax.specs.Judge.{Judgement, refused, accepted, judge}
use Rattle.clausify.specs.Naming.{text_book, goal_of}
use Rattle.clausify.specs.Calls.{ClausifiedAs, SettledAs}
use Rattle.clausify.specs.Demand.{book_of}
use Rattle.clausify.specs.declared.Clausified.{Clausified}
use Rattle.clausify.specs.declared.Settled.{Settled}
use Rattle.certify.specs.Written.{Written}
use Rattle.certify.specs.Demand.{last_answer, WrittenFrom, WrittenAfter}

-- After the verdict on a text: the problem and answer are those of the last verdict, the text's own first.
abbrev pub SettledWritten : Judgement → Settled → Type 0
SettledWritten (refused number place) r = WrittenAfter (opened 1) r.session
SettledWritten (accepted t) r = (cs : List Made) (run : Run r.session cs) (before : List ℕ) (l : Result ℕ Refusal) (after : List ℕ)
    → Written (end_of r.session cs run) before l after
    → WrittenFrom (end_of r.session cs run) (last_answer (text_book t) none (B.question program (goal_of t) ∷ map call_of cs)) before l after

-- For every text, refused or not: the session of its clauses, and the one that its verdict came with.
pub record TextWritten (s : List ℕ) : Type 0 where
  pub clausified : (r : Clausified) → ClausifiedAs (judge s) r → WrittenAfter (book_of (judge s)) r.session
  pub settled : (r : Settled) → SettledAs (judge s) r → SettledWritten (judge s) r
