-- The book of demand 3: what is held after a list of calls, and the number that each call meets (documents 01 and 02).
use Rattle.std.specs.Prelude.{Bool, not, cond, ◌&&◌, List, [], ◌∷◌, ◌++◌, ℕ, suc, eqb, leb, ltb, length, take}
use Rattle.std.proofs.Math.Option.{Option, none, some}
use Rattle.atoms.specs.Sets.{limit}
use Rattle.ipl.specs.Lists.{all}
use Rattle.ipl.specs.Clause.{bot, Flat, Implication, closings}
use Rattle.ipl.specs.Range.{flat_table, implication_table, atom_or_bot, flat_in_range, implication_in_range}
use Rattle.ipl.specs.Search.{Step, Outcome, valid, refuted, refused, unfinished, search}
use Rattle.ipl.specs.Marks.{mark_table, Mark, set_last, place_of, is_set, mark_at}
use Rattle.ipl.specs.Page.{goal_table, Found, earliest, Entry, searched, refuted_by, found_by}
use Rattle.ipl.specs.Authors.{is_author, author_number}

-- "It has n, flat clauses, implications and learned steps, each in order"; and marks, in the order in which they were last set.
pub record Book : Type 0 where
  pub n : ℕ
  pub flats : List Flat
  pub implications : List Implication
  pub steps : List Step
  pub marks : List Mark

-- "Adding a flat clause, adding an implication,"
pub data Addition : Type 0 where
  add_flat : Flat → Addition
  add_implication : Implication → Addition

-- "putting a question"; setting a mark, coming back to it and a page of goals "join demand 3's list". "A question or a page now names one
-- author", who stands first.
pub data Call : Type 0 where
  add : Addition → Call
  question : ℕ → ℕ → Call
  set_mark : ℕ → Call
  return_to : ℕ → Call
  page : ℕ → List ℕ → Call

unfoldable pub count_in_range : ℕ → Bool
count_in_range n = leb 1 n && leb n limit

-- "5: n not 1 to 64 at opening"; 0 where the opening is not refused.
unfoldable pub open_refusal : ℕ → ℕ
open_refusal n = cond (count_in_range n) 0 5

-- "An opening gives its n, or 1 where n is out of range; the rest begins empty."
unfoldable pub opened : ℕ → Book
opened n = record { n = cond (count_in_range n) n 1; flats = []; implications = []; steps = []; marks = [] }

unfoldable pub flats_full : Book → Bool
flats_full k = leb flat_table (length k.flats)

-- 6: out of range; 7: flat table full.
unfoldable pub flat_refusal : Book → Flat → ℕ
flat_refusal k f = cond (not (flat_in_range k.n f)) 6 (cond (flats_full k) 7 0)

-- 6: out of range; 7: flat table full and a row needed (with b = ⊥ none is); 8: implication table full.
unfoldable pub implication_refusal : Book → Implication → ℕ
implication_refusal k i =
    cond (not (implication_in_range k.n i)) 6
    (cond (not (eqb i.b bot) && flats_full k) 7 (cond (leb implication_table (length k.implications)) 8 0))

unfoldable pub addition_refusal : Book → Addition → ℕ
addition_refusal k (add_flat f) = flat_refusal k f
addition_refusal k (add_implication i) = implication_refusal k i

-- 6: a goal out of range.
unfoldable pub goal_refusal : Book → ℕ → ℕ
goal_refusal k g = cond (atom_or_bot k.n g) 0 6

-- "A question runs the fixed search" where it meets none of the caller's refusals; 11 and 12 are the search's own.
unfoldable pub answer : Book → ℕ → Outcome
answer k g = cond (eqb (goal_refusal k g) 0) (search k.n k.flats k.implications g k.steps) (refused (goal_refusal k g))

-- The caller's refusals of a question: 20, then 6; and its answer.
abbrev pub question_refusal : Book → ℕ → ℕ → ℕ
question_refusal k a g = author_number a (goal_refusal k g)

abbrev pub answer_to : Book → ℕ → ℕ → Outcome
answer_to k a g = cond (is_author a) (answer k g) (refused 20)

unfoldable pub number_of : Outcome → ℕ
number_of (valid s) = 0
number_of (refuted s) = 0
number_of (refused number) = number
number_of unfinished = 0

-- "17 for a mark number above 7,"
unfoldable pub mark_refusal : ℕ → ℕ
mark_refusal j = cond (ltb j mark_table) 0 17

-- "18 for a mark never set or lost."
unfoldable pub return_refusal : Book → ℕ → ℕ
return_refusal k j = cond (ltb j mark_table) (cond (is_set j k.marks) 0 18) 17

-- "6 for any goal, before the first is searched; 19 for more than 64, before that"; 20 before both.
unfoldable pub page_refusal : Book → ℕ → List ℕ → ℕ
page_refusal k a gs = author_number a (cond (leb (length gs) goal_table) (cond (all (atom_or_bot k.n) gs) 0 6) 19)

-- The number of the refusal that a call meets; 0 for none. A goal of a page that meets 11 or 12 "has that in its record".
unfoldable pub refusal : Book → Call → ℕ
refusal k (add a) = addition_refusal k a
refusal k (question a g) = number_of (answer_to k a g)
refusal k (set_mark j) = mark_refusal j
refusal k (return_to j) = return_refusal k j
refusal k (page a gs) = page_refusal k a gs

-- What an addition makes of the book.
unfoldable pub added : Book → Addition → Book
added k (add_flat f) =
    record { n = k.n; flats = k.flats ++ (f ∷ []); implications = k.implications; steps = k.steps; marks = k.marks }
added k (add_implication i) =
    record { n = k.n; flats = k.flats ++ closings i; implications = k.implications ++ (i ∷ []); steps = k.steps; marks = k.marks }

-- The steps held after an answer: "the new steps go to the end".
unfoldable pub steps_after : List Step → Outcome → List Step
steps_after S (valid s) = s.steps
steps_after S (refuted s) = s.steps
steps_after S (refused number) = S
steps_after S unfinished = S

abbrev pub after_answer : Book → Outcome → Book
after_answer k o =
    record { n = k.n; flats = k.flats; implications = k.implications; steps = steps_after k.steps o; marks = k.marks }

-- What the goal g of a page gets, put to the book k; M are the models found before.
abbrev pub entry_by : Book → ℕ → Option ℕ → Entry
entry_by k g none = searched (answer k g)
entry_by k g (some j) = refuted_by j

abbrev pub entry : Book → List Found → ℕ → Entry
entry k M g = entry_by k g (earliest g M)

-- "Each goal searched is a question"; another changes nothing.
abbrev pub after_entry : Book → Entry → Book
after_entry k (searched o) = after_answer k o
after_entry k (refuted_by j) = k

-- "Goals are taken in order": what each from the place i on gets.
unfoldable pub entries_from : Book → List Found → ℕ → List ℕ → List Entry
entries_from k M i [] = []
entries_from k M i (g ∷ gs) =
    entry k M g ∷ entries_from (after_entry k (entry k M g)) (M ++ found_by i (entry k M g)) (suc i) gs

abbrev pub entries : Book → List ℕ → List Entry
entries k gs = entries_from k [] 0 gs

unfoldable pub after_entries : Book → List Entry → Book
after_entries k [] = k
after_entries k (e ∷ es) = after_entries (after_entry k e) es

-- Mark j, set now.
abbrev pub mark_now : Book → ℕ → Mark
mark_now k j = record { number = j; flats = length k.flats; implications = length k.implications; steps = length k.steps }

-- "Coming back drops all that was added since": what the mark m remembers, with the marks M.
abbrev pub cut_to : Book → Mark → List Mark → Book
cut_to k m M = record {
  n = k.n;
  flats = take m.flats k.flats;
  implications = take m.implications k.implications;
  steps = take m.steps k.steps;
  marks = M;
}

-- "Marks last set after this one are lost": it stays with those before it.
unfoldable pub returned : Book → ℕ → Book
returned k i = cut_to k (mark_at k.marks i) (take (suc i) k.marks)

-- What a call that is not refused makes of the book.
unfoldable pub taken : Book → Call → Book
taken k (add a) = added k a
taken k (question a g) = after_answer k (answer_to k a g)
taken k (set_mark j) =
    record { n = k.n; flats = k.flats; implications = k.implications; steps = k.steps; marks = set_last (mark_now k j) k.marks }
taken k (return_to j) = returned k (place_of j k.marks)
taken k (page a gs) = after_entries k (entries k gs)

-- "A call that meets one of the caller's refusals, judged by the book, changes nothing", nor does one that meets 11 or 12.
unfoldable pub next : Book → Call → Book
next k c = cond (eqb (refusal k c) 0) (taken k c) k

-- The book after a list of calls.
unfoldable pub after : Book → List Call → Book
after k [] = k
after k (c ∷ cs) = after (next k c) cs
