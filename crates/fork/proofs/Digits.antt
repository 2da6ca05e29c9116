-- Assignments by number: their digits, and that each list of sets has its number, in the order of the lists.
use mathlib.Core.List.{List, [], ◌∷◌}
use mathlib.Core.Logic.{inl, inr}
use mathlib.Core.Path.{◌≡◌, refl, sym, ap, ap₂, ◌∙◌}
use Prim.Native.Nat.{ℕ, zero, suc, ◌+◌, ◌*◌, ◌-◌, ◌/◌, ◌%◌, ◌^◌, ◌≤◌, ◌<◌}
use native.Mathlib.Nat.{pow-suc, mul_assoc, mul_comm, mul-le-mul_right, suc-mul, one-le-pow}
use native.Mathlib.Nat.{mod-lt, mod-eq_of_lt, mod-one, div-eq_of_lt, mul-add-div_right, mul-add-mod_self_right, add-zero}
use native.Mathlib.Omega.{arith}
use lib.Arith.{mod-mul}
use lib.ListN.{length, get_or}
use Rattle.ipl.specs.Lists.{All}
use Rattle.fork.specs.Fork.{whole, set_count}
use Rattle.fork.specs.Screen.{assignment, most_letters}
use Rattle.fork.specs.Cells.{set_at}
use Rattle.fork.specs.Answer.{Before}

pub assignment_length : (k n : ℕ) → length (assignment k n) ≡ k
unfolding assignment
assignment_length zero n = refl
assignment_length (suc k) n = ap suc (assignment_length k n)

pub assignment_sets : (k n : ℕ) → All (λ s. s ≤ whole) (assignment k n)
unfolding assignment
assignment_sets zero n = tt
assignment_sets (suc k) n = (omega (arith, mod-lt (n / set_count ^ k) {m = set_count} (omega arith)), assignment_sets k n)

digit_at : (k n i x : ℕ) → k ≡ suc (i + x) → get_or (assignment k n) i 0 ≡ n / set_count ^ x % set_count
unfolding assignment
digit_at zero n i x e = absurd (omega arith)
digit_at (suc k) n zero x e = let last : k ≡ x = omega arith in ap (λ (x : ℕ). n / set_count ^ x % set_count) last
digit_at (suc k) n (suc i) x e = digit_at k n i x (omega arith)

-- The letter i of k stands at this place of three.
pub place_set : (k n i place : ℕ) → k ≤ most_letters → i < k → place ≡ most_letters - k + i → set_at n place ≡ get_or (assignment k n) i 0
unfolding set_at
place_set k n i place few h e = sym (digit_at k n i (2 - place) (omega arith))

-- ---- the number of a list of sets

pub number_of : List ℕ → ℕ
number_of [] = 0
number_of (s ∷ a) = s * set_count ^ length a + number_of a

power_positive : (k : ℕ) → 0 < set_count ^ k
power_positive k = one-le-pow k set_count (omega arith)

-- A leading digit more.
leading : (m k r : ℕ) → m * set_count ^ suc k + r ≡ m * set_count * set_count ^ k + r
leading m k r = ap (λ (x : ℕ). m * x + r) (pow-suc set_count k ∙ mul_comm (set_count ^ k) set_count) ∙ ap (λ (x : ℕ). x + r) (sym (mul_assoc m set_count (set_count ^ k)))

leading_digit : (k m r : ℕ) → (m * set_count ^ suc k + r) / set_count ^ k % set_count ≡ r / set_count ^ k % set_count
leading_digit k m r =
    ap (λ (x : ℕ). x / set_count ^ k % set_count) (leading m k r)
    ∙ ap (λ (x : ℕ). x % set_count) (mul-add-div_right (power_positive k) (m * set_count) r)
    ∙ mul-add-mod_self_right m set_count (r / set_count ^ k)

digits_below : (k m r : ℕ) → assignment k (m * set_count ^ k + r) ≡ assignment k r
unfolding assignment
digits_below zero m r = refl
digits_below (suc k) m r = ap₂ (λ (s : ℕ) (a : List ℕ). s ∷ a) (leading_digit k m r) (ap (assignment k) (leading m k r) ∙ digits_below k (m * set_count) r)

less_leading : (x y p n m : ℕ) → x < y → n < p → x * p + n < y * p + m
less_leading x y p n m h l = omega (arith, mul-le-mul_right {m = suc x} {n = y} p h, suc-mul x p)

pub number_below_lem : (a : List ℕ) → All (λ s. s ≤ whole) a → number_of a < set_count ^ length a
unfolding number_of
number_below_lem [] h = omega arith
number_below_lem (s ∷ a) h =
    let power = pow-suc set_count (length a) ∙ mul_comm (set_count ^ length a) set_count in
    omega (arith, less_leading s set_count (set_count ^ length a) (number_of a) 0 (omega (arith, h.0)) (number_below_lem a h.1), power)

pub assignment_number : (a : List ℕ) → All (λ s. s ≤ whole) a → assignment (length a) (number_of a) ≡ a
unfolding assignment number_of
assignment_number [] h = refl
assignment_number (s ∷ a) h = ap₂ (λ (s : ℕ) (a : List ℕ). s ∷ a) head (digits_below (length a) s (number_of a) ∙ assignment_number a h.1)
  where
    head : (s * set_count ^ length a + number_of a) / set_count ^ length a % set_count ≡ s
    head =
        ap (λ (x : ℕ). x % set_count) (mul-add-div_right (power_positive (length a)) s (number_of a)
        ∙ ap (λ (x : ℕ). s + x) (div-eq_of_lt (number_below_lem a h.1)) ∙ add-zero s)
        ∙ mod-eq_of_lt (omega (arith, h.0))

-- The number of the last digits.
digits_number : (k n : ℕ) → number_of (assignment k n) ≡ n % set_count ^ k
unfolding assignment number_of
digits_number zero n = sym (mod-one n)
digits_number (suc k) n =
    ap₂ (λ (p r : ℕ). n / set_count ^ k % set_count * p + r) (ap (λ (m : ℕ). set_count ^ m) (assignment_length k n)) (digits_number k n)
    ∙ sym (ap (λ (p : ℕ). n % p) (pow-suc set_count k ∙ mul_comm (set_count ^ k) set_count) ∙ mod-mul n {m = set_count} (omega arith) (power_positive k))

pub number_back : (k n : ℕ) → n < set_count ^ k → number_of (assignment k n) ≡ n
number_back k n h = digits_number k n ∙ mod-eq_of_lt h

-- ---- their order

pub before_less : (b a : List ℕ) → length b ≡ length a → All (λ s. s ≤ whole) b → Before b a → number_of b < number_of a
unfolding number_of
before_less [] a e h l = absurd l
before_less (x ∷ b) [] e h l = absurd l
before_less (x ∷ b) (y ∷ a) e h (inl l) =
    let same : length b ≡ length a = omega arith in
    omega (arith, less_leading x y (set_count ^ length b) (number_of b) (number_of a) l (number_below_lem b h.1), ap (λ (k : ℕ). y * set_count ^ k) same)
before_less (x ∷ b) (y ∷ a) e h (inr (d, l)) =
    let same : length b ≡ length a = omega arith in
    omega (arith, ap₂ (λ (s k : ℕ). s * set_count ^ k) d same, before_less b a same h.1 l)
