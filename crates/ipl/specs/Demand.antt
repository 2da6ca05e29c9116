-- Demand 3 as a statement about the book: what is claimed of every call of a list.
use Rattle.std.specs.Prelude.{Bool, true, false, ◌||◌, List, [], ◌∷◌, ◌++◌, ◌↔◌, ◌≡◌, ℕ, ◌≤◌, ◌<◌, T, length, take, get_or}
use Rattle.atoms.specs.Sets.{limit}
use Rattle.ipl.specs.Lists.{All, Pairwise}
use Rattle.ipl.specs.Clause.{Flat, Implication, closed}
use Rattle.ipl.specs.Range.{flat_table, implication_table, step_table, flat_in_range, implication_in_range}
use Rattle.ipl.specs.Search.{Step, Outcome, valid, refuted, refused, unfinished, NeedsNoMore, start}
use Rattle.ipl.specs.Kripke.{Model, shown}
use Rattle.ipl.specs.Claim.{Countermodel, StepsRight}
use Rattle.ipl.specs.Marks.{mark_table, Mark}
use Rattle.ipl.specs.Page.{Entry, searched, refuted_by}
use Rattle.ipl.specs.Book.{Book, Call, add, question, set_mark, return_to, page, opened, question_refusal, page_refusal, answer, answer_to, after_entry, entries, refusal, next, after}

unfoldable pub is_valid : Outcome → Bool
is_valid (valid s) = true
is_valid (refuted s) = false
is_valid (refused number) = false
is_valid unfinished = false

unfoldable pub is_refuted : Outcome → Bool
is_refuted (valid s) = false
is_refuted (refuted s) = true
is_refuted (refused number) = false
is_refuted unfinished = false

abbrev pub is_verdict : Outcome → Bool
is_verdict o = is_valid o || is_refuted o

unfoldable pub worlds_of : Outcome → List ℕ
worlds_of (valid s) = []
worlds_of (refuted s) = s.worlds
worlds_of (refused number) = []
worlds_of unfinished = []

-- Of the answer o to the goal g, over the clauses that the book k then holds.
pub record VerdictRight (k : Book) (g : ℕ) (o : Outcome) : Type 0 where
  -- "Every verdict .. is valid exactly when no finite Kripke model .. holds at its root the clauses .., without the goal,"
  pub valid_iff : T (is_verdict o) → (T (is_valid o) ↔ ((m : Model) → Countermodel k.flats k.implications g m → ⊥))
  -- "and refuted exactly when there is one;"
  pub refuted_iff : T (is_verdict o) → (T (is_refuted o) ↔ ((m : Model) × Countermodel k.flats k.implications g m))
  -- "the worlds shown are one."
  pub shown_one : T (is_refuted o) → Countermodel k.flats k.implications g (shown (worlds_of o))

-- The same, and when there is a verdict.
pub record Settled (k : Book) (g : ℕ) (o : Outcome) : Type 0 where
  pub right : VerdictRight k g o
  -- It "gets a verdict exactly when the search .. needs neither a 257th world nor a 513th learned step,"
  pub verdict_iff : T (is_verdict o) ↔ NeedsNoMore k.n k.flats k.implications g (start k.steps)
  -- "and over eight atoms or fewer it never needs either."
  pub eight : k.n ≤ 8 → NeedsNoMore k.n k.flats k.implications g (start k.steps)

-- ---- pages

abbrev pub own_outcome : Entry → Outcome
own_outcome (searched o) = o
own_outcome (refuted_by j) = unfinished

-- What a goal of a page comes to, E being what all of its goals get: "the worlds of a goal refuted without a search are those of the
-- goal it names".
abbrev pub outcome_of : List Entry → Entry → Outcome
outcome_of E (searched o) = o
outcome_of E (refuted_by j) = own_outcome (get_or E j (refuted_by j))

-- "Each goal searched is a question"; without a search a goal is refuted.
abbrev pub AsQuestion : Book → List Entry → ℕ → Entry → Type 0
AsQuestion l E g (searched o) = Settled l g o
AsQuestion l E g (refuted_by j) = T (is_refuted (outcome_of E (refuted_by j)))

-- Of a goal g that gets e: k is the book before the page, and l the one that g is put to.
pub record GoalSettled (k l : Book) (E : List Entry) (g : ℕ) (e : Entry) : Type 0 where
  pub as_question : AsQuestion l E g e
  pub right : VerdictRight l g (outcome_of E e)
  -- "Each verdict of a page, valid or refuted, is that of the goal put alone, wherever both give one."
  pub alone : T (is_verdict (outcome_of E e)) → T (is_verdict (answer k g)) → is_valid (outcome_of E e) ≡ is_valid (answer k g)

-- Of each goal, in order.
abbrev pub GoalsSettled : Book → List Entry → Book → List ℕ → List Entry → Type 0
GoalsSettled k E l [] es = Unit {0}
GoalsSettled k E l (g ∷ gs) [] = ⊥
GoalsSettled k E l (g ∷ gs) (e ∷ es) = GoalSettled k l E g e × GoalsSettled k E (after_entry l e) gs es

abbrev pub PageSettled : Book → List ℕ → Type 0
PageSettled k gs = GoalsSettled k (entries k gs) k gs (entries k gs)

-- ---- books reached

-- What rows reached by calls hold: numbers in range, tables not exceeded, closing clauses held, steps right.
pub record RowsWellFormed (n : ℕ) (F : List Flat) (X : List Implication) (S : List Step) : Type 0 where
  pub some : 1 ≤ n
  pub few : n ≤ limit
  pub flat_count_small : length F ≤ flat_table
  pub implication_count_small : length X ≤ implication_table
  pub step_count : length S ≤ step_table
  pub flats : All (λ f. T (flat_in_range n f)) F
  pub implications : All (λ i. T (implication_in_range n i)) X
  pub closings : All (λ i. T (closed F i)) X
  pub steps : StepsRight n F X [] S

-- Something that is said of rows: n, flat clauses, implications, steps.
abbrev pub OfRows : Type 1
OfRows = ℕ → List Flat → List Implication → List Step → Type 0

-- A mark set over these rows has a number, is not beyond them, and P holds of the rows up to it by themselves.
pub record Remembers (P : OfRows) (n : ℕ) (F : List Flat) (X : List Implication) (S : List Step) (m : Mark) : Type 0 where
  pub number : m.number < mark_table
  pub flats : m.flats ≤ length F
  pub implications : m.implications ≤ length X
  pub steps : m.steps ≤ length S
  pub rows : P n (take m.flats F) (take m.implications X) (take m.steps S)

-- The mark l, last set after m, has another number and remembers no less.
pub record SetBefore (m l : Mark) : Type 0 where
  pub differs : m.number ≡ l.number → ⊥
  pub flats : m.flats ≤ l.flats
  pub implications : m.implications ≤ l.implications
  pub steps : m.steps ≤ l.steps

-- P holds of the rows of the book, and for each of its marks of the rows up to it.
pub record Marked (P : OfRows) (k : Book) : Type 0 where
  pub rows : P k.n k.flats k.implications k.steps
  pub marks : All (Remembers P k.n k.flats k.implications k.steps) k.marks
  pub ordered : Pairwise SetBefore k.marks

-- What every book reached by calls holds: of all its rows, and of those up to each mark.
abbrev pub WellFormed : Book → Type 0
WellFormed = Marked RowsWellFormed

-- Of a question or a page "that meets none of the caller's refusals", that its answer is settled.
abbrev pub Answered : Book → Call → Type 0
Answered k (add a) = Unit {0}
Answered k (question a g) = question_refusal k a g ≡ 0 → Settled k g (answer_to k a g)
Answered k (set_mark j) = Unit {0}
Answered k (return_to j) = Unit {0}
Answered k (page a gs) = page_refusal k a gs ≡ 0 → PageSettled k gs

-- Of a call to the book k, refused or not.
pub record Claim (k : Book) (c : Call) : Type 0 where
  pub well_formed : WellFormed k
  pub refused_unchanged : (refusal k c ≡ 0 → ⊥) → next k c ≡ k
  pub answered : Answered k c

-- Of every call of a list, each met by the book that the calls before it left.
abbrev pub Claims : Book → List Call → Type 0
Claims k [] = WellFormed k
Claims k (c ∷ cs) = Claim k c × Claims (next k c) cs

-- The books hold the same but for their marks.
pub record SameRows (k l : Book) : Type 0 where
  pub n : k.n ≡ l.n
  pub flats : k.flats ≡ l.flats
  pub implications : k.implications ≡ l.implications
  pub steps : k.steps ≡ l.steps

-- "Coming back drops all that was added since", learned steps included: after any calls since mark j was set, refused ones too, a
-- return to it gives what was then held, or is refused since the mark is lost.
abbrev pub ComesBack : Type 0
ComesBack = (n : ℕ) (cs : List Call) (j : ℕ) → refusal (after (opened n) cs) (set_mark j) ≡ 0
    → (since : List Call) → All (λ c. c ≡ set_mark j → ⊥) since
    → refusal (after (after (opened n) cs) (set_mark j ∷ since)) (return_to j) ≡ 0
    → SameRows (after (after (opened n) cs) (set_mark j ∷ since ++ (return_to j ∷ []))) (after (opened n) cs)
