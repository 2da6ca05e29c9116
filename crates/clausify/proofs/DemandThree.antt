-- Demand 3 for texts: the theorem. The book of a text is reached, and its session holds no verdict.
use mathlib.Core.List.{List, [], ◌∷◌, map}
use mathlib.Core.Path.{◌≡◌, sym, subst}
use Prim.Native.Nat.{ℕ}
use Rattle.ipl.specs.Book as B
use Rattle.ipl.specs.Authors.{program}
use Rattle.ipl.specs.Book.{answer, next}
use Rattle.ipl.specs.Work.{decided}
use Rattle.ipl.proofs.Book.{Reached, opened_reached}
use Rattle.prover.specs.State.{book}
use Rattle.prover.specs.Work.{works_of, none_done}
use Rattle.prover.specs.Calls.{NothingHeld, VerdictIs, Asked}
use Rattle.prover.specs.Demand.{Made, question, call_of, Run, end_of, Follows}
use Rattle.prover.specs.Counts.{WorkRight, CountsFrom}
use Rattle.prover.specs.declared.Session.{Session}
use Rattle.prover.specs.Told.{Answered}
use Rattle.prover.specs.Told as call
use Rattle.prover.proofs.DemandThree.{session_follows}
use Rattle.prover.proofs.Counts.{session_counts}
use Rattle.ipl.specs.Formula.{Formula}
use Rattle.syntax.specs.Judge.{Judgement, refused, accepted, judge}
use Rattle.clausify.specs.Naming.{text_book, goal_of}
use Rattle.clausify.specs.Calls.{Holds, ClausifiedAs, SettledAs}
use Rattle.clausify.specs.Demand.{book_of, EveryRunFollows, SettledFollows, SettledCounts, DemandThree}
use Rattle.clausify.specs.declared.Clausified.{Clausified}
use Rattle.clausify.specs.declared.Settled.{Settled}
use Rattle.clausify.proofs.TextBook.{text_reached}

book_reached : (j : Judgement) → Reached (book_of j)
book_reached (refused number place) = opened_reached 1
book_reached (accepted t) = text_reached t

-- The session holds the book of the text, and nothing else.
module _ (r : Clausified) where
  holds_book : (j : Judgement) → ClausifiedAs j r → book r.session ≡ book_of j
  holds_book (refused number place) h = h.2.clauses
  holds_book (accepted t) h = h.1.clauses

  pub clausified_reached : (j : Judgement) → ClausifiedAs j r → Reached (book r.session)
  clausified_reached j h = subst Reached (sym (holds_book j h)) (book_reached j)

  pub clausified_nothing : (j : Judgement) → ClausifiedAs j r → NothingHeld none_done r.session
  clausified_nothing (refused number place) h = h.2.nothing
  clausified_nothing (accepted t) h = h.1.nothing

  text_follows : (j : Judgement) → ClausifiedAs j r → EveryRunFollows (book_of j) r.session
  text_follows j h = session_follows (book_of j) (book_reached j) r.session (holds_book j h) (clausified_nothing j h)

  text_counts : (j : Judgement) → ClausifiedAs j r → CountsFrom (book_of j) r.session
  text_counts j h = session_counts (book_of j) (book_reached j) r.session (holds_book j h) (clausified_nothing j h)

-- A run on the session of a verdict is one on the text's session whose first call is the question.
module _ (t : Formula) (r : Settled) (s : Session) (holds : Holds t s r.goal) where
  abbrev answered : Answered
  answered = call.answered r.verdict r.session

  module _ (asked : Asked s program r.goal answered) where
    from_question : (cs : List Made) (run : Run r.session cs) → Follows (text_book t) s (question program r.goal ∷ cs) (answered, asked, run)
    from_question cs run = session_follows (text_book t) (text_reached t) s holds.clauses holds.nothing (question program r.goal ∷ cs) (answered, asked, run)

    verdict_is : VerdictIs (goal_of t) (answer (text_book t) (goal_of t)) answered
    verdict_is = subst (λ (g : ℕ). VerdictIs g (answer (text_book t) g) answered) holds.goal (from_question [] tt).1

    verdict_follows : EveryRunFollows (next (text_book t) (B.question program (goal_of t))) r.session
    verdict_follows cs run =
        subst (λ (g : ℕ). Follows (next (text_book t) (B.question program g)) r.session cs run) holds.goal (from_question cs run).3

    verdict_counts : SettledCounts (accepted t) r
    verdict_counts cs run =
        subst (λ (g : ℕ). WorkRight (decided (text_book t) (B.question program g ∷ map call_of cs)) (works_of (end_of r.session cs run).authors)) holds.goal
        (session_counts (text_book t) (text_reached t) s holds.clauses holds.nothing (question program r.goal ∷ cs) (answered, asked, run))

settled_follows : (j : Judgement) (r : Settled) → SettledAs j r → SettledFollows j r
settled_follows (refused number place) r h = session_follows (B.opened 1) (opened_reached 1) r.session h.1.clauses h.1.nothing
settled_follows (accepted t) r (s, holds, asked) = (verdict_is t r s holds asked, verdict_follows t r s holds asked)

settled_counts : (j : Judgement) (r : Settled) → SettledAs j r → SettledCounts j r
settled_counts (refused number place) r h = session_counts (B.opened 1) (opened_reached 1) r.session h.1.clauses h.1.nothing
settled_counts (accepted t) r (s, holds, asked) = verdict_counts t r s holds asked

pub demand_three : (s : List ℕ) → DemandThree s
demand_three s = record {
  clausified = λ r. text_follows r (judge s);
  settled = settled_follows (judge s);
  clausified_counts = λ r. text_counts r (judge s);
  settled_counts = settled_counts (judge s);
}
