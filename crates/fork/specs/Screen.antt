-- The screen (document 02, change 8: "A formula of at most three letters is worked out under every assignment ..").
use Rattle.std.specs.Prelude.{Bool, cond, List, [], ◌∷◌, ℕ, zero, suc, ◌/◌, ◌%◌, ◌^◌, eqb, ltb, length}
use Rattle.std.proofs.Math.Option.{Option, none, some}
use Rattle.ipl.specs.First.{first_failing}
use Rattle.ipl.specs.Formula.{Formula}
use Rattle.syntax.specs.Nodes.{nodes}
use Rattle.syntax.specs.Letters.{letters_of}
use Rattle.syntax.specs.Judge as text
use Rattle.syntax.specs.Judge.{Judgement}
use Rattle.fork.specs.Fork.{whole, set_count}
use Rattle.fork.specs.Algebra.{value}

-- The letters of a formula, in order of first standing.
abbrev pub letters : Formula → List ℕ
letters f = letters_of (nodes f).table

-- The sets of k letters in the assignment with number n: "every assignment, sets in rising number, the first letter slowest" counts
-- with a digit below 17 for each letter.
unfoldable pub assignment : ℕ → ℕ → List ℕ
assignment zero n = []
assignment (suc k) n = n / set_count ^ k % set_count ∷ assignment k n

-- The set of the letter l, where the letters L have the sets in their order.
unfoldable pub set_of : List ℕ → List ℕ → ℕ → ℕ
set_of [] sets l = 0
set_of (x ∷ L) [] l = 0
set_of (x ∷ L) (s ∷ sets) l = cond (eqb x l) s (set_of L sets l)

-- The formula gets the whole where its letters have these sets.
unfoldable pub gives_whole : Formula → List ℕ → Bool
gives_whole f sets = eqb (value (set_of (letters f) sets) f) whole

-- What is told of a text.
pub data Screening : Type 0 where
  refused : ℕ → ℕ → Screening
  passes : Screening
  falls : List ℕ → Screening

-- By the number of the first assignment that does not give the whole.
abbrev pub falls_at : ℕ → Option ℕ → Screening
falls_at k none = passes
falls_at k (some n) = falls (assignment k n)

-- "The first assignment that does not give the whole is returned."
unfoldable pub screened : Formula → Screening
screened f =
    let k = length (letters f) in
    falls_at k (first_failing (λ n. gives_whole f (assignment k n)) (set_count ^ k))

-- "A formula of at most three letters."
abbrev pub most_letters : ℕ
most_letters = 3

-- "Answers: 1 to 4 as before, then 22 for more than three letters."
unfoldable pub screening : Judgement → Screening
screening (text.refused number place) = refused number place
screening (text.accepted f) = cond (ltb most_letters (length (letters f))) (refused 22 0) (screened f)
