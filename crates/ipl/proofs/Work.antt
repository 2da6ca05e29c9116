-- Laws of the goals decided: each has an author, and those of each author together are all of them.
use mathlib.Core.List.{List, [], ◌∷◌, ◌++◌}
use mathlib.Core.Path.{◌≡◌, refl, ap, ap₂, ◌∙◌}
use Prim.Native.Nat.{ℕ, zero, suc, ◌+◌, ◌<◌}
use native.Mathlib.Decide.{dec_lt}
use native.Mathlib.Nat.{not-suc-le-zero}
use native.Mathlib.Omega.{arith}
use lib.Dec.{eqb}
use lib.ListN.{length}
use borrow.Author.Tests.{ltb-true, eq-eqb, ne_eqb, eqb-true}
use Rattle.atoms.proofs.Truth.{by_cond}
use Rattle.ipl.specs.Lists.{keep, All}
use Rattle.ipl.specs.Search.{Outcome, valid, refuted, refused, unfinished}
use Rattle.ipl.specs.Page.{Entry, searched, refuted_by}
use Rattle.ipl.specs.Authors.{author_table, is_author}
use Rattle.ipl.specs.Book.{Book, Call, add, question, set_mark, return_to, page, answer, page_refusal, refusal, entries, next}
use Rattle.ipl.specs.Work.{Decided, decided_as, decided_for, decided_on, decided_by, decided, of_author, questions_of}
use Rattle.ipl.proofs.Lists.{All_append}
use Rattle.ipl.proofs.Authors.{author_zero}

-- ---- authors

abbrev pub AllKnown : List Decided → Type 0
AllKnown D = All (λ d. d.author < author_table) D

module _ (a : ℕ) (known : a < author_table) where
  as_known : (o : Outcome) → AllKnown (decided_as a o)
  as_known (valid end) = (known, tt)
  as_known (refuted end) = (known, tt)
  as_known (refused number) = tt
  as_known unfinished = tt

  for_known : (e : Entry) → AllKnown (decided_for a e)
  for_known (searched o) = as_known o
  for_known (refuted_by j) = (known, tt)

  on_known : (es : List Entry) → AllKnown (decided_on a es)
  unfolding decided_on
  on_known [] = tt
  on_known (e ∷ es) = All_append (λ d. d.author < author_table) (decided_for a e) (decided_on a es) (for_known e) (on_known es)

by_known : (k : Book) (c : Call) → AllKnown (decided_by k c)
unfolding decided_by refusal page_refusal
by_known k (add x) = tt
by_known k (question a g) =
    by_cond (λ o. AllKnown (decided_as a o)) (is_author a) (answer k g) (refused 20) (λ e. as_known a (ltb-true a author_table e) (answer k g)) (λ _. tt)
by_known k (set_mark j) = tt
by_known k (return_to j) = tt
by_known k (page a gs) =
    by_cond AllKnown (eqb (refusal k (page a gs)) 0) (decided_on a (entries k gs)) []
    (λ e. on_known a (ltb-true a author_table (author_zero a _ (eqb-true (refusal k (page a gs)) 0 e)).0) (entries k gs)) (λ _. tt)

pub decided_known : (cs : List Call) (k : Book) → AllKnown (decided k cs)
unfolding decided
decided_known [] k = tt
decided_known (c ∷ cs) k = All_append (λ d. d.author < author_table) (decided_by k c) (decided (next k c) cs) (by_known k c) (decided_known cs (next k c))

-- ---- sums

-- f 0, f 1, up to before f n, together.
unfoldable pub sum_to : (ℕ → ℕ) → ℕ → ℕ
sum_to f zero = 0
sum_to f (suc n) = sum_to f n + f n

pub sum_same : (f g : ℕ → ℕ) (n : ℕ) → ((i : ℕ) → i < n → f i ≡ g i) → sum_to f n ≡ sum_to g n
unfolding sum_to
sum_same f g zero h = refl
sum_same f g (suc n) h = ap₂ (λ (x y : ℕ). x + y) (sum_same f g n (λ i l. h i (omega arith))) (h n (omega arith))

sum_zero : (n : ℕ) → sum_to (λ a. 0) n ≡ 0
unfolding sum_to
sum_zero zero = refl
sum_zero (suc n) = omega (arith, sum_zero n)

-- One of them with x more.
sum_more : (f g : ℕ → ℕ) (i x n : ℕ) → i < n → f i ≡ x + g i → ((j : ℕ) → (i ≡ j → ⊥) → f j ≡ g j) → sum_to f n ≡ x + sum_to g n
unfolding sum_to
sum_more f g i x zero l here there = absurd (not-suc-le-zero l)
sum_more f g i x (suc n) l here there = elim (dec_lt i n) [
  | yes m ↦ omega (arith, sum_more f g i x n m here there, there n (λ e. omega arith))
  | no m ↦
      let e : i ≡ n = omega arith in
      let same : sum_to f n ≡ sum_to g n = sum_same f g n (λ j h. there j (λ q. omega arith)) in
      omega (arith, same, ap f e, ap g e, here)
]

-- What counts for each goal, over those of each author and over all.
module _ (worth : Decided → ℕ) where
  unfoldable pub worth_of : List Decided → ℕ
  worth_of [] = 0
  worth_of (d ∷ D) = worth d + worth_of D

  pub by_author : (D : List Decided) → AllKnown D → sum_to (λ a. worth_of (of_author a D)) author_table ≡ worth_of D
  unfolding worth_of keep
  by_author [] h = sum_zero author_table
  by_author (d ∷ D) h =
      sum_more (λ a. worth_of (of_author a (d ∷ D))) (λ a. worth_of (of_author a D)) d.author (worth d) author_table h.0
      (rw (eq-eqb d.author d.author refl)) (λ a other. rw (ne_eqb d.author a other))
      ∙ ap (λ (n : ℕ). worth d + n) (by_author D h.1)

pub questions_worth : (D : List Decided) → worth_of (λ d. d.questions) D ≡ questions_of D
unfolding worth_of questions_of
questions_worth [] = refl
questions_worth (d ∷ D) = ap (λ (n : ℕ). d.questions + n) (questions_worth D)

pub number_worth : (D : List Decided) → worth_of (λ d. 1) D ≡ length D
unfolding worth_of
number_worth [] = refl
number_worth (d ∷ D) = omega (arith, number_worth D)

pub questions_append : (D E : List Decided) → questions_of (D ++ E) ≡ questions_of D + questions_of E
unfolding questions_of
questions_append [] E = omega arith
questions_append (d ∷ D) E = omega (arith, questions_append D E)
