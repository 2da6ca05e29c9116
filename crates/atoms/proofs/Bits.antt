-- Laws of `bit_at` for numbers of any width. A bit is a number, 0 or 1, so that `omega` reasons atom by atom.
use mathlib.Core.Path.{◌≡◌, refl, sym, ap, ◌∙◌}
use Prim.Native.Nat.{ℕ, zero, suc, ◌-◌, ◌/◌, ◌%◌, ◌^◌, ◌≤◌, ◌<◌, min, max, zero-le}
use native.Mathlib.Nat.{div-one, zero-div, div-div-eq-div-mul, pow-succ', div-eq_of_lt, lt_of_lt_of_le, div-eq_of_lt-le}
use native.Mathlib.Decide.{dec_lt}
use native.Mathlib.Omega.{arith}
use lib.Arith.{bin_ind, digits_mod}
use lib.Bits.{bit_and, bit_or, bit_xor, differ, and_step, or_step, xor_step, and_shr, or_shr, xor_shr}
use lib.Pow.{pow_pos, pow_mono, ones_lt, ones_sub-lt}
use Rattle.atoms.specs.Sets.{bit_at, minus}

pub bit_le : (a i : ℕ) → bit_at a i ≤ 1
unfolding bit_at
bit_le a i = omega arith

-- A statement about two bits is four statements.
pub by_bits : (P : ℕ → ℕ → Type 0) → P 0 0 → P 0 1 → P 1 0 → P 1 1 → (p q : ℕ) → p ≤ 1 → q ≤ 1 → P p q
by_bits P a b c d zero zero hp hq = a
by_bits P a b c d zero (suc zero) hp hq = b
by_bits P a b c d zero (suc (suc q)) hp hq = absurd (omega arith)
by_bits P a b c d (suc zero) zero hp hq = c
by_bits P a b c d (suc zero) (suc zero) hp hq = d
by_bits P a b c d (suc zero) (suc (suc q)) hp hq = absurd (omega arith)
by_bits P a b c d (suc (suc p)) q hp hq = absurd (omega arith)

-- ---- the operations, bit by bit

pub bit_and_lem : (a b i : ℕ) → bit_at (bit_and a b) i ≡ min (bit_at a i) (bit_at b i)
unfolding bit_at
bit_and_lem a b i =
    ap (λ (x : ℕ). x % 2) (and_shr a b i ∙ and_step (a / 2 ^ i) (b / 2 ^ i))
    ∙ digits_mod (bit_and (a / 2 ^ i / 2) (b / 2 ^ i / 2)) (omega arith)

pub bit_or_lem : (a b i : ℕ) → bit_at (bit_or a b) i ≡ max (bit_at a i) (bit_at b i)
unfolding bit_at
bit_or_lem a b i =
    ap (λ (x : ℕ). x % 2) (or_shr a b i ∙ or_step (a / 2 ^ i) (b / 2 ^ i))
    ∙ digits_mod (bit_or (a / 2 ^ i / 2) (b / 2 ^ i / 2)) (omega arith)

bit_xor_lem : (a b i : ℕ) → bit_at (bit_xor a b) i ≡ differ (bit_at a i) (bit_at b i)
unfolding bit_at
bit_xor_lem a b i =
    ap (λ (x : ℕ). x % 2) (xor_shr a b i ∙ xor_step (a / 2 ^ i) (b / 2 ^ i))
    ∙ digits_mod (bit_xor (a / 2 ^ i / 2) (b / 2 ^ i / 2)) (small (a / 2 ^ i % 2) (b / 2 ^ i % 2) (omega arith) (omega arith))
  where
    small : (p q : ℕ) → p ≤ 1 → q ≤ 1 → differ p q < 2
    small p q hp hq = by_bits (λ p q. differ p q < 2) (omega arith) (omega arith) (omega arith) (omega arith) p q hp hq

pub bit_minus : (a b i : ℕ) → bit_at (minus a b) i ≡ bit_at a i - bit_at b i
unfolding minus
bit_minus a b i =
    bit_xor_lem a (bit_and a b) i ∙ ap (differ (bit_at a i)) (bit_and_lem a b i)
    ∙ by_bits (λ p q. differ p (min p q) ≡ p - q) refl refl refl refl (bit_at a i) (bit_at b i) (bit_le a i) (bit_le b i)

-- ---- digit by digit

pub bit_first : (a : ℕ) → bit_at a 0 ≡ a % 2
unfolding bit_at
bit_first a = ap (λ (x : ℕ). x % 2) (div-one a)

pub bit_next : (a i : ℕ) → bit_at a (suc i) ≡ bit_at (a / 2) i
unfolding bit_at
bit_next a i = ap (λ (x : ℕ). x % 2) (ap (λ (x : ℕ). a / x) (pow-succ' 2 i) ∙ sym (div-div-eq-div-mul a 2 (2 ^ i)))

pub bit_zero : (i : ℕ) → bit_at 0 i ≡ 0
unfolding bit_at
bit_zero i = ap (λ (x : ℕ). x % 2) (zero-div (2 ^ i))

-- One atom.
pub bit_one : (i : ℕ) → bit_at (2 ^ i) i ≡ 1
bit_one zero = bit_first 1
bit_one (suc i) = bit_next _ i ∙ ap (λ (x : ℕ). bit_at x i) (omega arith) ∙ bit_one i

pub bit_other : (i j : ℕ) → (i ≡ j → ⊥) → bit_at (2 ^ i) j ≡ 0
bit_other zero zero h = absurd (h refl)
bit_other zero (suc j) h = bit_next 1 j ∙ bit_zero j
bit_other (suc i) zero h = bit_first _ ∙ omega arith
bit_other (suc i) (suc j) h = bit_next _ j ∙ ap (λ (x : ℕ). bit_at x j) (omega arith) ∙ bit_other i j (λ e. h (ap suc e))

-- Past its width a number has no bit.
pub bit_past : (w a i : ℕ) → a < 2 ^ w → w ≤ i → bit_at a i ≡ 0
unfolding bit_at
bit_past w a i h k = ap (λ (x : ℕ). x % 2) (div-eq_of_lt (lt_of_lt_of_le h (pow_mono k)))

-- The highest bit.
pub bit_top : (j a : ℕ) → 2 ^ j ≤ a → a < 2 ^ suc j → bit_at a j ≡ 1
unfolding bit_at
bit_top j a h k = ap (λ (x : ℕ). x % 2) (div-eq_of_lt-le {k = 1} (2 ^ j) (omega arith) (omega arith))

-- ---- bits and the order of numbers

pub bits_le : (a b : ℕ) → ((i : ℕ) → bit_at a i ≤ bit_at b i) → a ≤ b
bits_le = bin_ind (λ (n : ℕ). (b : ℕ) → ((i : ℕ) → bit_at n i ≤ bit_at b i) → n ≤ b) (λ b h. zero-le) step
  where
    step : (n : ℕ) → ((b : ℕ) → ((i : ℕ) → bit_at (n / 2) i ≤ bit_at b i) → n / 2 ≤ b) → (b : ℕ) → ((i : ℕ) → bit_at n i ≤ bit_at b i) → n ≤ b
    step n ih b h = omega (arith, ih (b / 2) (λ i. omega (arith, h (suc i), bit_next n i, bit_next b i)), h 0, bit_first n, bit_first b)

-- Of two numbers the highest bit in which they differ decides.
pub bit_order : (x a b : ℕ) → ((j : ℕ) → x < j → bit_at a j ≤ bit_at b j) → bit_at a x < bit_at b x → a < b
bit_order zero a b h k =
    omega (arith, bits_le (a / 2) (b / 2) (λ i. omega (arith, h (suc i) (omega arith), bit_next a i, bit_next b i)), bit_first a, bit_first b)
bit_order (suc x) a b h k =
    omega (
      arith,
      bit_order x (a / 2) (b / 2) (λ j l. omega (arith, h (suc j) (omega arith), bit_next a j, bit_next b j))
          (omega (arith, bit_next a x, bit_next b x)),
    )

-- The same bits: the same number.
pub bit_ext : (a b : ℕ) → ((i : ℕ) → bit_at a i ≡ bit_at b i) → a ≡ b
bit_ext a b h = omega (arith, bits_le a b (λ i. omega (arith, h i)), bits_le b a (λ i. omega (arith, h i)))

-- No bit at w or past it: below 2 ^ w.
pub lt_of_bits : (w a : ℕ) → ((i : ℕ) → w ≤ i → bit_at a i ≡ 0) → a < 2 ^ w
lt_of_bits w a h = bit_order w a (2 ^ w) (λ j k. omega (arith, h j (omega arith))) (omega (arith, h w (omega arith), bit_one w))

-- ---- all bits below a width, and the machine's complement at that width

pub bit_not : (w a i : ℕ) → a < 2 ^ w → i < w → bit_at ((2 ^ w - 1) - a) i ≡ 1 - bit_at a i
bit_not zero a i h k = omega arith
bit_not (suc w) a zero h k = omega (arith, bit_first (2 ^ suc w - 1 - a), bit_first a)
bit_not (suc w) a (suc i) h k =
    bit_next _ i
    ∙ ap (λ (x : ℕ). bit_at x i) half
    ∙ bit_not w (a / 2) i (omega arith) (omega arith)
    ∙ ap (λ (x : ℕ). 1 - x) (sym (bit_next a i))
  where
    half : (2 ^ suc w - 1 - a) / 2 ≡ 2 ^ w - 1 - a / 2
    half = omega (arith, pow_pos w)

pub bit_ones : (w i : ℕ) → i < w → bit_at (2 ^ w - 1) i ≡ 1
bit_ones w i h = ap (λ (x : ℕ). bit_at x i) (omega arith) ∙ bit_not w 0 i (pow_pos w) h ∙ ap (λ (x : ℕ). 1 - x) (bit_zero i)

-- `a & !b` at width w is the difference of sets.
pub and_not_minus : (w a b : ℕ) → a < 2 ^ w → b < 2 ^ w → bit_and a ((2 ^ w - 1) - b) ≡ minus a b
and_not_minus w a b ha hb = bit_ext _ _ (λ i. go i (dec_lt i w))
  where
    go : (i : ℕ) → Dec (i < w) → bit_at (bit_and a ((2 ^ w - 1) - b)) i ≡ bit_at (minus a b) i
    go i (yes k) = omega (arith, bit_and_lem a ((2 ^ w - 1) - b) i, bit_not w b i hb k, bit_le a i, bit_le b i, bit_minus a b i)
    go i (no k) = omega (arith, bit_and_lem a ((2 ^ w - 1) - b) i, bit_past w a i ha (omega arith), bit_minus a b i)

-- `!b` at width w.
pub not_minus : (w b : ℕ) → b < 2 ^ w → (2 ^ w - 1) - b ≡ minus (2 ^ w - 1) b
not_minus w b h = bit_ext _ _ (λ i. go i (dec_lt i w))
  where
    go : (i : ℕ) → Dec (i < w) → bit_at ((2 ^ w - 1) - b) i ≡ bit_at (minus (2 ^ w - 1) b) i
    go i (yes k) = omega (arith, bit_not w b i h k, bit_ones w i k, bit_minus (2 ^ w - 1) b i)
    go i (no k) = omega (arith, bit_past w ((2 ^ w - 1) - b) i (ones_sub-lt w b) (omega arith), bit_past w (2 ^ w - 1) i (ones_lt w) (omega arith), bit_minus (2 ^ w - 1) b i)
