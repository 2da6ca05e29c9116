-- Laws of membership, `has`, and of the operations on sets in its terms, for sets of any width.
use mathlib.Core.Path.{◌≡◌, refl, sym, ap, ◌∙◌, subst}
use mathlib.Core.Bool.{Bool, true, false, not, ◌&&◌, ◌||◌, true≢false, false≢true}
use Prim.Native.Nat.{ℕ, zero, suc, ◌+◌, ◌-◌, ◌*◌, ◌/◌, ◌%◌, ◌^◌, ◌≤◌, ◌<◌, min, max, zero-le}
use native.Mathlib.Decide.{dec_lt}
use native.Mathlib.Nat.{pow-suc, le_of_suc-le-suc, not-suc-le-zero, lt_of_le_of_lt}
use native.Mathlib.Omega.{arith}
use lib.Arith.{bin_ind, digits_mod, digits_div}
use lib.Bits.{bit_and, and_le_l, and_le_r, or_lt, xor_lt}
use lib.Dec.{T, T_not, not_T, eqb, eqb→eq}
use lib.Pow.{pow-lt}
use borrow.Author.Tests.{eqb-true, eqb-false, eq-eqb}
use Rattle.atoms.specs.Sets.{bit_at, has, single, union, minus, insert, remove, within, meets, without_lowest}
use Rattle.atoms.specs.Words.{HighestOrEmpty}
use Rattle.atoms.proofs.Truth.{T_left, T_right, T_and, T_iff, true_T, false_T}
use Rattle.atoms.proofs.Bits.{bit_le, by_bits, bit_and_lem, bit_or_lem, bit_minus, bit_first, bit_next, bit_one, bit_other, bit_past, bit_top, bit_order, bit_ext}

-- ---- membership and bits

pub has_bit : (s i : ℕ) → T (has s i) → bit_at s i ≡ 1
unfolding has
has_bit s i t = eqb→eq (bit_at s i) 1 t

pub bit_has : (s i : ℕ) → bit_at s i ≡ 1 → T (has s i)
unfolding has
bit_has s i e = true_T (eq-eqb (bit_at s i) 1 e)

-- Two numbers with the same members are one.
pub ext : (a b : ℕ) → ((i : ℕ) → has a i ≡ has b i) → a ≡ b
unfolding has
ext a b f =
    bit_ext a b (λ i.
    by_bits (λ p q. eqb p 1 ≡ eqb q 1 → p ≡ q) (λ e. refl) (λ e. absurd (false≢true e)) (λ e. absurd (true≢false e)) (λ e. refl)
    (bit_at a i) (bit_at b i) (bit_le a i) (bit_le b i) (f i))

-- Past its width a set has nothing.
pub has_past : (w s i : ℕ) → s < 2 ^ w → w ≤ i → has s i ≡ false
unfolding has
has_past w s i h l = ap (λ (k : ℕ). eqb k 1) (bit_past w s i h l)

pub has_below : (w s i : ℕ) → s < 2 ^ w → T (has s i) → i < w
has_below w s i h t = go (dec_lt i w)
  where
    go : Dec (i < w) → i < w
    go (yes k) = k
    go (no k) = absurd (false_T (has_past w s i h (omega arith)) t)

pub has_empty : (i : ℕ) → has 0 i ≡ false
has_empty i = has_past 0 0 i (omega arith) zero-le

-- ---- the operations

pub has_and : (a b i : ℕ) → has (bit_and a b) i ≡ has a i && has b i
unfolding has
has_and a b i =
    ap (λ (k : ℕ). eqb k 1) (bit_and_lem a b i)
    ∙ by_bits (λ p q. eqb (min p q) 1 ≡ eqb p 1 && eqb q 1) refl refl refl refl (bit_at a i) (bit_at b i) (bit_le a i) (bit_le b i)

pub has_union : (a b i : ℕ) → has (union a b) i ≡ has a i || has b i
unfolding has
has_union a b i =
    ap (λ (k : ℕ). eqb k 1) (bit_or_lem a b i)
    ∙ by_bits (λ p q. eqb (max p q) 1 ≡ eqb p 1 || eqb q 1) refl refl refl refl (bit_at a i) (bit_at b i) (bit_le a i) (bit_le b i)

pub has_minus : (a b i : ℕ) → has (minus a b) i ≡ has a i && not (has b i)
unfolding has
has_minus a b i =
    ap (λ (k : ℕ). eqb k 1) (bit_minus a b i)
    ∙ by_bits (λ p q. eqb (p - q) 1 ≡ eqb p 1 && not (eqb q 1)) refl refl refl refl (bit_at a i) (bit_at b i) (bit_le a i) (bit_le b i)

pub has_single : (i j : ℕ) → has (single i) j ≡ eqb i j
unfolding has
has_single i j = go (eqb i j) refl
  where
    go : (b : Bool) → eqb i j ≡ b → eqb (bit_at (2 ^ i) j) 1 ≡ b
    go true e = rw (← eqb-true i j e, bit_one i)
    go false e = rw (bit_other i j (eqb-false i j e))

pub has_insert : (s i j : ℕ) → has (insert s i) j ≡ has s j || eqb i j
has_insert s i j = has_union s (single i) j ∙ ap (λ (b : Bool). has s j || b) (has_single i j)

pub has_remove : (s i j : ℕ) → has (remove s i) j ≡ has s j && not (eqb i j)
has_remove s i j = has_minus s (single i) j ∙ ap (λ (b : Bool). has s j && not b) (has_single i j)

pub insert_lt : (w s i : ℕ) → s < 2 ^ w → i < w → insert s i < 2 ^ w
insert_lt w s i h l = or_lt w s (single i) h (pow-lt l)

pub minus_lt : (w a b : ℕ) → a < 2 ^ w → minus a b < 2 ^ w
unfolding minus
minus_lt w a b h = xor_lt w a (bit_and a b) h (lt_of_le_of_lt (and_le_l a b) h)

-- Each atom taken from a set makes its number smaller.
pub without_lowest_less : (s : ℕ) → eqb s 0 ≡ false → without_lowest s < s
without_lowest_less s e = elim (dec_lt 0 s) [
  | yes h ↦ omega (arith, and_le_r s (s - 1))
  | no h ↦ absurd (eqb-false s 0 e (omega arith))
]

pub without_highest_less : (s x : ℕ) → eqb s 0 ≡ false → HighestOrEmpty s x → minus s x < s
without_highest_less s x e h = elim (dec_lt 0 s) [
  | yes p ↦
      let t = h.highest p in
      let one = ap (λ (z : ℕ). bit_at z t.atom) t.alone ∙ bit_one t.atom in
      bit_order t.atom _ _ (λ j _. omega (arith, bit_minus s x j)) (omega (arith, bit_minus s x t.atom, bit_top t.atom s t.member t.above, one))
  | no p ↦ absurd (eqb-false s 0 e (omega arith))
]

-- ---- inclusion

pub within_has : (a b : ℕ) → T (within a b) → (i : ℕ) → T (has a i) → T (has b i)
unfolding within
within_has a b t i h =
    T_right (has a i) (has b i) (subst T (ap (λ (s : ℕ). has s i) (sym (eqb→eq (bit_and a b) a t)) ∙ has_and a b i) h)

pub has_within : (a b : ℕ) → ((i : ℕ) → T (has a i) → T (has b i)) → T (within a b)
unfolding within
has_within a b f =
    true_T (eq-eqb (bit_and a b) a
    (ext (bit_and a b) a (λ i. has_and a b i ∙ T_iff (has a i && has b i) (has a i) (T_left (has a i) (has b i)) (λ t. T_and (has a i) (has b i) t (f i t)))))

-- Inclusion, bit by bit.
pub within_bits : (a b : ℕ) → T (within a b) → (i : ℕ) → bit_at a i ≤ bit_at b i
unfolding within
within_bits a b t i = omega (arith, bit_and_lem a b i, ap (λ (x : ℕ). bit_at x i) (eqb→eq (bit_and a b) a t))

pub bits_within : (a b : ℕ) → ((i : ℕ) → bit_at a i ≤ bit_at b i) → T (within a b)
unfolding within
bits_within a b h = true_T (eq-eqb (bit_and a b) a (bit_ext (bit_and a b) a (λ i. omega (arith, bit_and_lem a b i, h i))))

pub within_refl : (a : ℕ) → T (within a a)
within_refl a = has_within a a (λ i t. t)

pub within_trans : (a b c : ℕ) → T (within a b) → T (within b c) → T (within a c)
within_trans a b c s t = has_within a c (λ i x. within_has b c t i (within_has a b s i x))

-- ---- common atoms

-- A set that is not empty has an atom.
some_atom : (s : ℕ) → (s ≡ 0 → ⊥) → (i : ℕ) × T (has s i)
some_atom = bin_ind (λ (s : ℕ). (s ≡ 0 → ⊥) → (i : ℕ) × T (has s i)) (λ h. absurd (h refl)) step
  where
    step : (s : ℕ) → ((s / 2 ≡ 0 → ⊥) → (i : ℕ) × T (has (s / 2) i)) → (s ≡ 0 → ⊥) → (i : ℕ) × T (has s i)
    step s ih h = go (dec_lt 0 (s % 2))
      where
        go : Dec (0 < s % 2) → (i : ℕ) × T (has s i)
        go (yes k) = (0, bit_has s 0 (bit_first s ∙ omega arith))
        go (no k) = let t = ih (λ e. h (omega arith)) in (suc t.0, bit_has s (suc t.0) (bit_next s t.0 ∙ has_bit (s / 2) t.0 t.1))

pub has_meets : (a b i : ℕ) → T (has a i) → T (has b i) → T (meets a b)
unfolding meets
has_meets a b i s t =
    not_T (eqb (bit_and a b) 0)
    (λ e. false_T (has_empty i) (subst (λ (k : ℕ). T (has k i)) (eqb→eq (bit_and a b) 0 e) (subst T (sym (has_and a b i)) (T_and (has a i) (has b i) s t))))

pub meets_has : (a b : ℕ) → T (meets a b) → (i : ℕ) × T (has a i) × T (has b i)
unfolding meets
meets_has a b t =
    let r = some_atom (bit_and a b) (λ e. T_not (eqb (bit_and a b) 0) t (true_T (eq-eqb (bit_and a b) 0 e))) in
    let x : T (has a r.0 && has b r.0) = subst T (has_and a b r.0) r.1 in
    (r.0, T_left (has a r.0) (has b r.0) x, T_right (has a r.0) (has b r.0) x)

-- ---- the set of the atoms below n that pass a test

bit : Bool → ℕ
bit true = 1
bit false = 0

bit_le_one : (b : Bool) → bit b ≤ 1
unfolding bit
bit_le_one true = omega arith
bit_le_one false = omega arith

bit_test : (b : Bool) → eqb (bit b) 1 ≡ b
unfolding bit
bit_test true = refl
bit_test false = refl

pub set_of : ℕ → (ℕ → Bool) → ℕ
set_of zero f = 0
set_of (suc n) f = set_of n (λ i. f (suc i)) * 2 + bit (f 0)

pub set_of_lt : (n : ℕ) (f : ℕ → Bool) → set_of n f < 2 ^ n
unfolding set_of
set_of_lt zero f = omega arith
set_of_lt (suc n) f = omega (arith, pow-suc 2 n, set_of_lt n (λ i. f (suc i)), bit_le_one (f 0))

pub has_set_of : (n : ℕ) (f : ℕ → Bool) (i : ℕ) → i < n → has (set_of n f) i ≡ f i
unfolding set_of has
has_set_of zero f i h = absurd (not-suc-le-zero h)
has_set_of (suc n) f zero h =
    ap (λ (k : ℕ). eqb k 1) (bit_first (set_of n (λ i. f (suc i)) * 2 + bit (f 0)) ∙ digits_mod (set_of n (λ i. f (suc i))) (omega (arith, bit_le_one (f 0))))
    ∙ bit_test (f 0)
has_set_of (suc n) f (suc i) h =
    ap (λ (k : ℕ). eqb k 1) (bit_next (set_of n (λ i. f (suc i)) * 2 + bit (f 0)) i
    ∙ ap (λ (k : ℕ). bit_at k i) (digits_div (set_of n (λ i. f (suc i))) (omega (arith, bit_le_one (f 0)))))
    ∙ has_set_of n (λ i. f (suc i)) i (le_of_suc-le-suc h)
