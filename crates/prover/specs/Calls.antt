-- The contracts of the calls: the number of the refusal, and what the session holds next, refused or not.
use Rattle.std.specs.Prelude.{cond, List, [], ◌≡◌, ℕ, ◌/◌, ◌%◌, ◌<◌, eqb, length}
use Rattle.atoms.specs.Words.{num, single_or_empty}
use Rattle.ipl.specs.Clause.{bot, one, Flat, Implication}
use Rattle.ipl.specs.Range.{flat_table}
use Rattle.ipl.specs.Search.{Step, State, Outcome, valid, refuted, refused, unfinished}
use Rattle.ipl.specs.Authors.{author_number}
use Rattle.ipl.specs.Book.{Book, Addition, add_flat, add_implication, add, set_mark, return_to, opened, answer_to, taken}
use Rattle.ipl.specs.Book.{open_refusal, flat_refusal, implication_refusal, question_refusal, mark_refusal, return_refusal}
use Rattle.prover.specs.State.{flats_of, implications_of, worlds_of, marks_of, book}
use Rattle.prover.specs.InRange.{in_range}
use Rattle.prover.specs.Told as verdict
use Rattle.prover.specs.Told.{Told, Changed, Answered}
use Rattle.prover.specs.PerVerdict as per-verdict
use Rattle.prover.specs.PerVerdict.{PerVerdict}
use Rattle.prover.specs.Work.{work_at, works_of, none_done, with_decided}
use Rattle.prover.specs.declared.Held.{Held}
use Rattle.prover.specs.declared.Held.TheVariants as held
use Rattle.prover.specs.declared.Work.{Work}
use Rattle.prover.specs.declared.Flats.{Flats}
use Rattle.prover.specs.declared.Session.{Session}
use Rattle.atoms.specs.declared.AtomSet.{AtomSet}

-- 5 comes "before all else".
abbrev pub number : Session → ℕ → ℕ
number s k = cond (in_range s) k 5

-- The clause that two sets of the code are.
abbrev pub flat_of : AtomSet → AtomSet → Flat
flat_of left right = record { left = num left; right = num right }

-- The number that each call meets: 5, or that of the book.
abbrev pub flat_number : Session → Flat → ℕ
flat_number s f = number s (flat_refusal (book s) f)

abbrev pub implication_number : Session → Implication → ℕ
implication_number s i = number s (implication_refusal (book s) i)

abbrev pub addition_number : Session → Addition → ℕ
addition_number s (add_flat f) = flat_number s f
addition_number s (add_implication i) = implication_number s i

abbrev pub mark_number : Session → ℕ → ℕ
mark_number s j = number s (mark_refusal j)

abbrev pub return_number : Session → ℕ → ℕ
return_number s j = number s (return_refusal (book s) j)

-- No verdict, no world, and this work of the authors.
pub record NothingHeld (W : List Work) (s : Session) : Type 0 where
  pub no_verdict : s.held ≡ held.Nothing
  pub no_worlds : worlds_of s.worlds ≡ []
  pub work : works_of s.authors ≡ W

-- The verdict and the worlds as they were in s, and this work of the authors.
pub record VerdictKept (W : List Work) (s r : Session) : Type 0 where
  pub same_verdict : r.held ≡ s.held
  pub same_worlds : r.worlds ≡ s.worlds
  pub work : works_of r.authors ≡ W

-- There is room for the closing clause of (a → b) → c, if it has one, and b and c are atoms or ⊥.
pub record ClosingFits (t : Flats) (b c : ℕ) : Type 0 where
  pub row : (b ≡ bot → ⊥) → t.count < flat_table
  pub b_atom : single_or_empty b ≡ one b
  pub c_atom : single_or_empty c ≡ one c

-- "An opening gives its n, or 1 where n is out of range; the rest begins empty."
pub record Opened (n : ℕ) (r : Changed) : Type 0 where
  pub refused : r.refusal ≡ open_refusal n
  pub holds : book r.session ≡ opened n
  pub nothing : NothingHeld none_done r.session

-- A call on s that meets `refusal`, or makes its book `next` and leaves the rest of the session so.
pub record Changes (s : Session) (refusal : ℕ) (next : Book) (Rest : Session → Type 0) (r : Changed) : Type 0 where
  pub refused : r.refusal ≡ refusal
  pub unchanged : (refusal ≡ 0 → ⊥) → r.session ≡ s
  pub holds : refusal ≡ 0 → book r.session ≡ next
  pub rest : refusal ≡ 0 → Rest r.session

-- The contracts of the two additions.
abbrev pub Added : Session → Addition → Changed → Type 0
Added s x = Changes s (addition_number s x) (taken (book s) (add x)) (NothingHeld (works_of s.authors))

abbrev pub FlatAdded : Session → AtomSet → AtomSet → Changed → Type 0
FlatAdded s left right = Added s (add_flat (flat_of left right))

abbrev pub ImplicationAdded : Session → ℕ → ℕ → ℕ → Changed → Type 0
ImplicationAdded s a b c = Added s (add_implication (record { a = a; b = b; c = c }))

-- Those of marks: "any verdict held" is dropped by a return, and stays where one is set; "no return to a mark lowers either number".
abbrev pub MarkSet : Session → ℕ → Changed → Type 0
MarkSet s j = Changes s (mark_number s j) (taken (book s) (set_mark j)) (VerdictKept (works_of s.authors) s)

abbrev pub MarkReturned : Session → ℕ → Changed → Type 0
MarkReturned s j = Changes s (return_number s j) (taken (book s) (return_to j)) (NothingHeld (works_of s.authors))

-- ---- questions

-- 5, or the number that the book has for author a and the goal g.
abbrev pub question_number : Session → ℕ → ℕ → ℕ
question_number s a g = number s (question_refusal (book s) a g)

-- The answer gives the verdict v; its session keeps it as h, and shows the worlds of the search's end.
pub record Given (v : Told) (h : Held) (end : State) (r : Answered) : Type 0 where
  pub verdict : r.verdict ≡ v
  pub kept : r.session.held ≡ h
  pub shows : worlds_of r.session.worlds ≡ end.worlds

-- "One answer is valid, refuted or refused, each with its own figures": the steps held, the worlds, the refusal's number.
abbrev pub VerdictIs : ℕ → Outcome → Answered → Type 0
VerdictIs g (valid end) r = Given (verdict.Valid (length end.steps)) (held.Valid g) end r
VerdictIs g (refuted end) r = Given (verdict.Refuted (length end.worlds)) (held.Refuted g) end r
VerdictIs g (refused number) r = r.verdict ≡ verdict.Refused number 0
VerdictIs g unfinished r = ⊥

-- The book of s with other steps.
abbrev pub with_steps : Session → List Step → Book
with_steps s S =
    record { n = s.n; flats = flats_of s.flats; implications = implications_of s.implications; steps = S; marks = marks_of s.marks }

-- The session r after s and a search for author a that ended there: the same clauses, the search's steps, and its questions counted.
pub record Searched (s : Session) (a : ℕ) (end : State) (r : Session) : Type 0 where
  pub holds : book r ≡ with_steps s end.steps
  pub work : works_of r.authors ≡ with_decided (works_of s.authors) (record { author = a; questions = end.questions })

-- What the session holds besides the verdict; a refusal leaves it as it was.
abbrev Leaves : Session → ℕ → Outcome → Session → Type 0
Leaves s a (valid end) r = Searched s a end r
Leaves s a (refuted end) r = Searched s a end r
Leaves s a (refused number) r = r ≡ s
Leaves s a unfinished r = ⊥

-- The answer r to a question that author a puts to s and that comes to the outcome o.
abbrev pub AskedAs : Session → ℕ → ℕ → Outcome → Answered → Type 0
AskedAs s a g o r = VerdictIs g o r × Leaves s a o r.session

-- What a question meets: "5 before all else", then the answer of the book.
abbrev pub outcome : Session → ℕ → ℕ → Outcome
outcome s a g = cond (in_range s) (answer_to (book s) a g) (refused 5)

-- The contract of a question.
abbrev pub Asked : Session → ℕ → ℕ → Answered → Type 0
Asked s a g = AskedAs s a g (outcome s a g)

-- ---- the mean

-- "21 for a mean without verdicts, after 20": W is the work of the authors.
abbrev pub mean_refusal : List Work → ℕ → ℕ
mean_refusal W a = author_number a (cond (eqb (work_at W a).verdicts 0) 21 0)

abbrev pub mean_number : Session → ℕ → ℕ
mean_number s a = number s (mean_refusal (works_of s.authors) a)

-- "For an author the mean is given as whole questions per verdict and the exact remainder."
abbrev pub mean_of : Work → PerVerdict
mean_of w = per-verdict.Questions (w.questions / w.verdicts) (w.questions % w.verdicts)

-- The contract of a mean: what is told where this number is met.
abbrev pub mean_by : ℕ → List Work → ℕ → PerVerdict
mean_by number W a = cond (eqb number 0) (mean_of (work_at W a)) (per-verdict.Refused number)

abbrev pub mean_told : Session → ℕ → PerVerdict
mean_told s a = mean_by (mean_number s a) (works_of s.authors) a
