-- Demand 3: every run of the session's calls, as their contracts state them, against the book, which is fed only n and the calls.
use Rattle.std.specs.Prelude.{List, [], ◌∷◌, ◌≡◌, ℕ, length}
use Rattle.atoms.specs.declared.AtomSet.{AtomSet}
use Rattle.ipl.specs.Search.{Outcome, valid, refuted, refused, unfinished}
use Rattle.ipl.specs.Page.{Entry, searched, refuted_by}
use Rattle.ipl.specs.Book as B
use Rattle.ipl.specs.Book.{Book, Call, open_refusal, opened, refusal, answer_to, entries, next}
use Rattle.ipl.specs.Work.{decided_on}
use Rattle.ipl.specs.Demand.{Claim}
use Rattle.prover.specs.State.{worlds_of, book}
use Rattle.prover.specs.Calls.{flat_of, Opened, FlatAdded, ImplicationAdded, MarkSet, MarkReturned, VerdictIs, Asked}
use Rattle.prover.specs.Work.{works_of, with_all}
use Rattle.prover.specs.Page.{goals_of, with_answer, PageAnswered}
use Rattle.prover.specs.declared.Held.{Held}
use Rattle.prover.specs.declared.Held.TheVariants as held
use Rattle.prover.specs.declared.GoalAnswer.TheVariants as goal
use Rattle.prover.specs.declared.GoalRecord.{GoalRecord}
use Rattle.prover.specs.declared.Session.{Session}
use Rattle.prover.specs.Told.{Changed, Answered}
use Rattle.refusal.specs.Numbers.{number_of}
use Rattle.refusal.specs.declared.Refusal.{Refusal}

-- A call as a program makes it, with any numbers, any author's among them.
pub data Made : Type 0 where
  add_flat : AtomSet → AtomSet → Made
  add_implication : ℕ → ℕ → ℕ → Made
  question : ℕ → ℕ → Made
  set_mark : ℕ → Made
  return_to : ℕ → Made
  page : ℕ → List GoalRecord → Made

-- The call that the book is fed.
abbrev pub call_of : Made → Call
call_of (add_flat left right) = B.add (B.add_flat (flat_of left right))
call_of (add_implication a b c) = B.add (B.add_implication (record { a = a; b = b; c = c }))
call_of (question a g) = B.question a g
call_of (set_mark j) = B.set_mark j
call_of (return_to j) = B.return_to j
call_of (page a xs) = B.page a (goals_of xs)

-- A page returns, and leaves in the records lent.
pub record PageReturned : Type 0 where
  pub changed : Changed
  pub records : List GoalRecord

-- What a call returns, and the session in that.
abbrev pub Returned : Made → Type 0
Returned (add_flat left right) = Changed
Returned (add_implication a b c) = Changed
Returned (question a g) = Answered
Returned (set_mark j) = Changed
Returned (return_to j) = Changed
Returned (page a xs) = PageReturned

abbrev pub session_of : (c : Made) → Returned c → Session
session_of (add_flat left right) r = r.session
session_of (add_implication a b c) r = r.session
session_of (question a g) r = r.session
session_of (set_mark j) r = r.session
session_of (return_to j) r = r.session
session_of (page a xs) r = r.changed.session

-- Its contract.
abbrev pub Meets : Session → (c : Made) → Returned c → Type 0
Meets s (add_flat left right) r = FlatAdded s left right r
Meets s (add_implication a b c) r = ImplicationAdded s a b c r
Meets s (question a g) r = Asked s a g r
Meets s (set_mark j) r = MarkSet s j r
Meets s (return_to j) r = MarkReturned s j r
Meets s (page a xs) r = PageAnswered s a xs r.records r.changed

-- A run of calls: each "on the session that the last one returned", and meeting its contract.
abbrev pub Run : Session → List Made → Type 0
Run s [] = Unit {0}
Run s (c ∷ cs) = (r : Returned c) × Meets s c r × Run (session_of c r) cs

-- The session that a run ends with.
abbrev pub end_of : (s : Session) (cs : List Made) → Run s cs → Session
end_of s [] run = s
end_of s (c ∷ cs) run = end_of (session_of c run.0) cs run.2

-- ---- a page's answer

-- The record x of a goal that gets e is then y: its answer with its figure, and the worlds of its own search.
abbrev pub RecordIs : Entry → GoalRecord → GoalRecord → Type 0
RecordIs (searched (valid end)) x y = y ≡ with_answer x (goal.Valid (length end.steps))
RecordIs (searched (refuted end)) x y = (y.goal ≡ x.goal) × (y.answer ≡ goal.Refuted (length end.worlds)) × (worlds_of y.worlds ≡ end.worlds)
RecordIs (searched (refused number)) x y = (e : Refusal) × (number_of e ≡ number) × (y ≡ with_answer x (goal.Refused e))
RecordIs (searched unfinished) x y = ⊥
RecordIs (refuted_by j) x y = y ≡ with_answer x (goal.RefutedBy j)

pub data RecordsAre : List Entry → List GoalRecord → List GoalRecord → Type 0 where
  none : RecordsAre [] [] []
  one_more : {e : Entry} {x y : GoalRecord} {es : List Entry} {xs ys : List GoalRecord} → RecordIs e x y → RecordsAre es xs ys → RecordsAre (e ∷ es) (x ∷ xs) (y ∷ ys)

-- "The verdict held afterwards is that of the last goal searched to a verdict, or the former one if there was none."
abbrev pub held_as : Held → ℕ → Outcome → Held
held_as h g (valid end) = held.Valid g
held_as h g (refuted end) = held.Refuted g
held_as h g (refused number) = h
held_as h g unfinished = h

abbrev pub held_by : Held → ℕ → Entry → Held
held_by h g (searched o) = held_as h g o
held_by h g (refuted_by j) = h

abbrev pub held_after : Held → List ℕ → List Entry → Held
held_after h [] es = h
held_after h (g ∷ gs) [] = h
held_after h (g ∷ gs) (e ∷ es) = held_after (held_by h g e) gs es

-- Of a page that author a put to s: the number of the book's refusal, and the records as they were; or the book's entries, and what is
-- held and counted then.
pub record PageIs (k : Book) (s : Session) (a : ℕ) (xs : List GoalRecord) (r : PageReturned) : Type 0 where
  pub number : r.changed.refusal ≡ refusal k (B.page a (goals_of xs))
  pub unchanged : (refusal k (B.page a (goals_of xs)) ≡ 0 → ⊥) → r.records ≡ xs
  pub records : refusal k (B.page a (goals_of xs)) ≡ 0 → RecordsAre (entries k (goals_of xs)) xs r.records
  pub held : refusal k (B.page a (goals_of xs)) ≡ 0 → r.changed.session.held ≡ held_after s.held (goals_of xs) (entries k (goals_of xs))
  pub work : refusal k (B.page a (goals_of xs)) ≡ 0
      → works_of r.changed.session.authors ≡ with_all (works_of s.authors) (decided_on a (entries k (goals_of xs)))

-- ---- every run

-- "Each answer" to a call on s: the number of the book's refusal, or the verdict of the book's answer, with its figure, held and shown.
abbrev pub AnswerIs : Book → Session → (c : Made) → Returned c → Type 0
AnswerIs k s (add_flat left right) r = r.refusal ≡ refusal k (call_of (add_flat left right))
AnswerIs k s (add_implication a b c) r = r.refusal ≡ refusal k (call_of (add_implication a b c))
AnswerIs k s (question a g) r = VerdictIs g (answer_to k a g) r
AnswerIs k s (set_mark j) r = r.refusal ≡ refusal k (call_of (set_mark j))
AnswerIs k s (return_to j) r = r.refusal ≡ refusal k (call_of (return_to j))
AnswerIs k s (page a xs) r = PageIs k s a xs r

-- A run follows the book k: what the session holds is k; each answer is that of k, and all that is claimed of it holds;
-- and so on from the book that the call leaves.
abbrev pub Follows : Book → (s : Session) → (cs : List Made) → Run s cs → Type 0
Follows k s [] run = book s ≡ k
Follows k s (c ∷ cs) run =
    (book s ≡ k) × AnswerIs k s c run.0 × Claim k (call_of c) × Follows (next k (call_of c)) (session_of c run.0) cs run.2

-- For every n, every opening, every list of calls and every run of them.
abbrev pub DemandThree : Type 0
DemandThree = (n : ℕ) (o : Changed) → Opened n o → (cs : List Made) (run : Run o.session cs)
    → (o.refusal ≡ open_refusal n) × Follows (opened n) o.session cs run
