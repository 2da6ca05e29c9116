-- The algebra of the 17 sets, and the value of a formula in it.
use Rattle.std.specs.Prelude.{Bool, not, cond, ◌&&◌, ◌||◌, ℕ, zero, suc, ◌≤◌, T, eqb}
use Rattle.atoms.specs.Sets as sets
use Rattle.ipl.specs.Lists.{all, tabulate}
use Rattle.ipl.specs.Formula.{Formula, letter, falsum, and, or, implies}
use Rattle.fork.specs.Fork.{whole, set_count}

-- The common part of two sets, and the worlds of either.
unfoldable pub meet : ℕ → ℕ → ℕ
meet a b = cond (eqb a whole) b (cond (eqb b whole) a (sets.common a b))

unfoldable pub join : ℕ → ℕ → ℕ
join a b = cond (eqb a whole || eqb b whole) whole (sets.union a b)

-- The set a lies within the set b.
unfoldable pub within : ℕ → ℕ → Bool
within a b = eqb (meet a b) a

-- c is "the greatest set whose common part with the first lies within the second": it is such a set, and every such set lies within it.
pub record Greatest (a b c : ℕ) : Type 0 where
  pub set : c ≤ whole
  pub inside : T (within (meet c a) b)
  pub greatest : (d : ℕ) → d ≤ whole → T (within (meet d a) b) → T (within d c)

-- The same as a test.
unfoldable pub is_implication : ℕ → ℕ → ℕ → Bool
is_implication a b c = within (meet c a) b && all (λ d. not (within (meet d a) b) || within d c) (tabulate (λ d. d) set_count)

-- The number below n that passes a test: the last, where several do.
unfoldable pub number_with : (ℕ → Bool) → ℕ → ℕ
number_with test zero = zero
number_with test (suc n) = cond (test n) n (number_with test n)

unfoldable pub implication : ℕ → ℕ → ℕ
implication a b = number_with (is_implication a b) set_count

-- The set of worlds at which a formula is forced, worked out from those of its letters.
unfoldable pub value : (ℕ → ℕ) → Formula → ℕ
value v (letter l) = v l
value v falsum = 0
value v (and p q) = meet (value v p) (value v q)
value v (or p q) = join (value v p) (value v q)
value v (implies p q) = implication (value v p) (value v q)
