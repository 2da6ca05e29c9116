-- Laws of numbers that are read digit by digit.
use mathlib.Core.Bool.{true, false, cond, ◌&&◌, and-false}
use mathlib.Core.List.{List, [], ◌∷◌}
use Rattle.std.specs.Prelude.{Option, None, Some}
use mathlib.Core.Path.{◌≡◌, refl, ◌∙◌}
use Prim.Native.Nat.{ℕ, ◌+◌, ◌-◌, ◌*◌, ◌≤◌, ◌<◌}
use native.Mathlib.Numerals.{add-one}
use native.Mathlib.Omega.{arith}
use lib.Dec.{T, leb, ltb, leb→le}
use lib.ListN.{length, drop, get_or, drop_of_length-le}
use lib.Seq.{drop-cons}
use borrow.Author.Tests.{lt-ltb, le-ltb}
use Rattle.atoms.proofs.Truth.{T_left, T_right, true_T}
use Rattle.std.specs.List.{list_all}
use Rattle.script.specs.Numbers.{is_digit, value_from, number_below}

pub is_in_range : (low high b : ℕ) → leb low b && leb b high ≡ true → (low ≤ b) × (b ≤ high)
is_in_range low high b e =
    let t : T (leb low b && leb b high) = true_T e in
    (leb→le low b (T_left (leb low b) (leb b high) t), leb→le b high (T_right (leb low b) (leb b high) t))

pub digit_range : (b : ℕ) → is_digit b ≡ true → (48 ≤ b) × (b ≤ 57)
unfolding is_digit
digit_range b e = is_in_range 48 57 b e

-- The number of the digits of x and then these, below a bound.
unfoldable pub number_from : ℕ → ℕ → List ℕ → Option ℕ
number_from bound x word = cond (list_all is_digit word && ltb (value_from x word) bound) (Some (value_from x word)) None

-- A value that has passed the bound stays past it.
value_grows : (x : ℕ) (word : List ℕ) → x ≤ value_from x word
unfolding value_from
value_grows x [] = omega arith
value_grows x (b ∷ word) = omega (arith, value_grows (10 * x + (b - 48)) word)

-- One digit more, or no number.
module _ (bound x b : ℕ) (word : List ℕ) where
  abbrev longer : ℕ
  longer = 10 * x + (b - 48)

  no_number : is_digit b ≡ false → None ≡ number_from bound x (b ∷ word)
  unfolding number_from
  no_number e = rw e

  too_large : bound ≤ longer → None ≡ number_from bound x (b ∷ word)
  unfolding number_from value_from
  too_large h = simp (le-ltb (value_from longer word) bound (omega (arith, value_grows longer word)), and-false)

  longer_number : is_digit b ≡ true → number_from bound x (b ∷ word) ≡ number_from bound longer word
  unfolding number_from value_from
  longer_number e = rw e

-- The digits before the place i are those of x.
pub record Passed (bound : ℕ) (word : List ℕ) (i x : ℕ) : Type 0 where
  pub inside : i ≤ length word
  pub below : x < bound
  pub is : number_below bound word ≡ number_from bound x (drop i word)

pub none_passed : (bound : ℕ) (word : List ℕ) → 0 < bound → Passed bound word 0 0
unfolding number_below number_from
none_passed bound word h = record { inside = omega arith; below = h; is = refl }

module _ {bound : ℕ} {word : List ℕ} {i x : ℕ} (p : Passed bound word i x) where
  abbrev here : ℕ
  here = get_or word i 0

  pub no_digit : i < length word → is_digit here ≡ false → None ≡ number_below bound word
  no_digit h e = rw (p.is, drop-cons word i 0) (no_number bound x here _ e)

  pub past_bound : i < length word → bound ≤ 10 * x + (here - 48) → None ≡ number_below bound word
  past_bound h e = rw (p.is, drop-cons word i 0) (too_large bound x here _ e)

  pub next_digit : i < length word → is_digit here ≡ true → (z : ℕ) → z ≡ 10 * x + (here - 48) → z < bound → Passed bound word (i + 1) z
  next_digit h e z is below = record {
    inside = omega arith;
    below = below;
    is = p.is ∙ rw (drop-cons word i 0, ← add-one i, is) (longer_number bound x here (drop (i + 1) word) e);
  }

  pub all_passed : length word ≤ i → Some x ≡ number_below bound word
  unfolding number_from value_from
  all_passed h = rw (p.is, drop_of_length-le word h, lt-ltb x bound p.below)
