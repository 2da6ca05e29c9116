-- What is written of a text's session after any later calls is accepted and reads back as the problem and answer it came from.
use mathlib.Core.List.{List, ◌∷◌, map}
use mathlib.Core.Option.{none}
use mathlib.Core.Path.{subst}
use Prim.Native.Nat.{ℕ}
use Rattle.ipl.specs.Authors.{program}
use Rattle.ipl.specs.Book as B
use Rattle.ipl.specs.Book.{opened}
use Rattle.ipl.proofs.Book.{opened_reached}
use Rattle.prover.specs.Demand.{question, call_of, end_of}
use Rattle.prover.specs.Told as prover
use Rattle.syntax.specs.Judge.{Judgement, refused, accepted, judge}
use Rattle.clausify.specs.Naming.{text_book}
use Rattle.clausify.specs.Calls.{ClausifiedAs, SettledAs}
use Rattle.clausify.specs.Demand.{book_of}
use Rattle.clausify.specs.declared.Clausified.{Clausified}
use Rattle.clausify.specs.declared.Settled.{Settled}
use Rattle.clausify.proofs.TextBook.{text_reached}
use Rattle.certify.specs.Demand.{last_answer, WrittenFrom, WrittenAfter}
use Rattle.certify.proofs.DemandTwo.{written_after}
use Rattle.zestanchor.specs.Demand.{SettledWritten, TextWritten}

clausified_written : (j : Judgement) (r : Clausified) → ClausifiedAs j r → WrittenAfter (book_of j) r.session
clausified_written (refused number place) r h = written_after (opened 1) (opened_reached 1) r.session h.2.clauses h.2.nothing
clausified_written (accepted t) r h = written_after (text_book t) (text_reached t) r.session h.1.clauses h.1.nothing

-- The verdict's session is that of the text after one question.
settled_written : (j : Judgement) (r : Settled) → SettledAs j r → SettledWritten j r
settled_written (refused number place) r h = written_after (opened 1) (opened_reached 1) r.session h.1.clauses h.1.nothing
settled_written (accepted t) r (s, holds, asked) = λ cs run before l after w.
    let calls = question program r.goal ∷ cs in
    subst (λ (g : ℕ). WrittenFrom (end_of r.session cs run) (last_answer (text_book t) none (B.question program g ∷ map call_of cs)) before l after) holds.goal
    (written_after (text_book t) (text_reached t) s holds.clauses holds.nothing calls (prover.answered r.verdict r.session, asked, run) before l after w)

pub text_written : (s : List ℕ) → TextWritten s
text_written s = record { clausified = clausified_written (judge s); settled = settled_written (judge s) }
