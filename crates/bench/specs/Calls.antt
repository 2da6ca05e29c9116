-- What a list of calls is, and how many of them the book refuses.
use Rattle.std.specs.Prelude.{cond, List, ◌≡◌, ℕ, zero, suc, ◌+◌, ◌*◌, ◌/◌, eqb, length, get_or}
use Rattle.atoms.specs.Words.{row_of}
use Rattle.ipl.specs.Clause.{Flat}
use Rattle.ipl.specs.Authors.{program}
use Rattle.ipl.specs.Book.{Book, Addition, add_flat, add_implication, add, question, opened, open_refusal, refusal, next}
use Rattle.prover.specs.Calls.{Opened, Added, Asked}
use Rattle.prover.specs.Told.{Told, Valid, Refuted, Refused, Changed, Answered}
use Rattle.prover.specs.declared.Session.{Session}

-- An opening, or an addition or a question on the session that the last one returned.
pub data Act : Type 0 where
  opening : ℕ → Act
  adding : Addition → Act
  asking : ℕ → Act

-- Kind 0 opens, 1 adds a flat clause, 2 an implication; any other is a question.
abbrev pub act : ℕ → ℕ → ℕ → ℕ → Flat → Act
act kind a b c f =
    cond (eqb kind 0) (opening a)
    (cond (eqb kind 1) (adding (add_flat f)) (cond (eqb kind 2) (adding (add_implication (record { a = a; b = b; c = c }))) (asking a)))

-- Act i of a list: four bytes and two rows of sets.
abbrev pub act_at : List ℕ → List ℕ → ℕ → Act
act_at calls sets i =
    act (get_or calls (4 * i) 0) (get_or calls (4 * i + 1) 0) (get_or calls (4 * i + 2) 0) (get_or calls (4 * i + 3) 0)
    (record { left = row_of sets (2 * i); right = row_of sets (2 * i + 1) })

-- The number that an act meets, and the book after it.
abbrev pub number_met : Book → Act → ℕ
number_met k (opening n) = open_refusal n
number_met k (adding x) = refusal k (add x)
number_met k (asking g) = refusal k (question program g)

abbrev pub book_after : Book → Act → Book
book_after k (opening n) = opened n
book_after k (adding x) = next k (add x)
book_after k (asking g) = next k (question program g)

abbrev pub one_if_refused : ℕ → ℕ
one_if_refused number = cond (eqb number 0) 0 1

-- How many of so many acts from act i on are refused, from the book k.
unfoldable pub refusals_from : List ℕ → List ℕ → ℕ → ℕ → Book → ℕ
refusals_from calls sets zero i k = 0
refusals_from calls sets (suc more) i k =
    one_if_refused (number_met k (act_at calls sets i)) + refusals_from calls sets more (i + 1) (book_after k (act_at calls sets i))

-- Of all, from the empty session of one atom.
abbrev pub refusals : List ℕ → List ℕ → ℕ
refusals calls sets = refusals_from calls sets (length calls / 4) 0 (opened 1)

-- ---- the contracts of the calls

-- The number of a verdict's refusal, or 0.
abbrev pub number_told : Told → ℕ
number_told (Valid steps) = 0
number_told (Refuted worlds) = 0
number_told (Refused number place) = number

abbrev pub QuestionPut : Session → ℕ → Changed → Type 0
QuestionPut s g r = (x : Answered) × Asked s program g x × (r.session ≡ x.session) × (r.refusal ≡ number_told x.verdict)

abbrev pub Called : Session → Act → Changed → Type 0
Called s (opening n) r = Opened n r
Called s (adding x) r = Added s x r
Called s (asking g) r = QuestionPut s g r
