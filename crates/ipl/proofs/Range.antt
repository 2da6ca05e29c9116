-- Numbers in range, as statements.
use mathlib.Core.Bool.{false, ◌&&◌}
use mathlib.Core.Logic.{◌⊎◌, inl, inr}
use mathlib.Core.Path.{◌≡◌, sym, subst, ◌∙◌}
use Prim.Native.Nat.{ℕ, ◌^◌, ◌≤◌, ◌<◌, min}
use native.Mathlib.Decide.{dec_lt}
use native.Mathlib.Omega.{arith}
use lib.Dec.{T, eqb, ltb, eqb→eq, eqb_refl, ltb→lt, lt→ltb}
use lib.Pow.{pow_pos, pow-lt}
use Rattle.atoms.specs.Sets.{bit_at, has, limit, single, within}
use Rattle.atoms.specs.Words.{single_or_empty, below}
use Rattle.atoms.proofs.Bits.{bit_le, bit_past, lt_of_bits}
use Rattle.atoms.proofs.Machine.{limit_small, single_bits, single_none, below_in, below_out}
use Rattle.atoms.proofs.Truth.{T_left, T_right, T_and, T_or, T_inl, T_inr, T_iff, true_T, false_T, by_cond}
use Rattle.atoms.proofs.Members.{has_empty, has_single, within_bits, bits_within}
use Rattle.ipl.specs.Clause.{bot, one, Flat, Implication}
use Rattle.ipl.specs.Range.{atom_or_bot, set_in_range, flat_in_range, implication_in_range}
use borrow.Author.Tests.{eqb-false, eq-eqb, ne_eqb}

abbrev pub AtomOrBot : ℕ → ℕ → Type 0
AtomOrBot n x = (x < n) ⊎ (x ≡ bot)

pub record FlatBelow (n : ℕ) (f : Flat) : Type 0 where
  pub left : f.left < 2 ^ n
  pub right : f.right < 2 ^ n

pub record ImplicationBelow (n : ℕ) (i : Implication) : Type 0 where
  pub a : i.a < n
  pub b : AtomOrBot n i.b
  pub c : AtomOrBot n i.c

pub atom_or_bot_lem : (n x : ℕ) → T (atom_or_bot n x) → AtomOrBot n x
unfolding atom_or_bot
atom_or_bot_lem n x t = elim (T_or (ltb x n) (eqb x bot) t) [ inl h ↦ inl (ltb→lt x n h) | inr h ↦ inr (eqb→eq x bot h) ]

pub flat_below : (n : ℕ) (f : Flat) → T (flat_in_range n f) → FlatBelow n f
unfolding flat_in_range set_in_range
flat_below n f t = record {
  left = ltb→lt f.left (2 ^ n) (T_left (ltb f.left (2 ^ n)) (ltb f.right (2 ^ n)) t);
  right = ltb→lt f.right (2 ^ n) (T_right (ltb f.left (2 ^ n)) (ltb f.right (2 ^ n)) t);
}

pub implication_below : (n : ℕ) (i : Implication) → T (implication_in_range n i) → ImplicationBelow n i
unfolding implication_in_range
implication_below n i t =
    let ab = T_left (ltb i.a n && atom_or_bot n i.b) (atom_or_bot n i.c) t in
    record {
      a = ltb→lt i.a n (T_left (ltb i.a n) (atom_or_bot n i.b) ab);
      b = atom_or_bot_lem n i.b (T_right (ltb i.a n) (atom_or_bot n i.b) ab);
      c = atom_or_bot_lem n i.c (T_right (ltb i.a n && atom_or_bot n i.b) (atom_or_bot n i.c) t);
    }

-- The set of one atom or of ⊥.
pub one_below : (n x : ℕ) → AtomOrBot n x → one x < 2 ^ n
unfolding one
one_below n x h = by_cond (λ s. s < 2 ^ n) (eqb x bot) 0 (single x) (λ e. pow_pos n) (λ e. atom e h)
  where
    atom : eqb x bot ≡ false → AtomOrBot n x → single x < 2 ^ n
    atom e (inl l) = pow-lt l
    atom e (inr q) = absurd (eqb-false x bot e q)

pub has_one : (x j : ℕ) → T (has (one x) j) → x ≡ j
unfolding one
has_one x j =
    by_cond (λ s. T (has s j) → x ≡ j) (eqb x bot) 0 (single x)
    (λ e t. absurd (false_T (has_empty j) t)) (λ e t. eqb→eq x j (subst T (has_single x j) t))

pub one_has : (x : ℕ) → (x ≡ bot → ⊥) → T (has (one x) x)
unfolding one
one_has x d = rw (ne_eqb x bot d) (subst T (sym (has_single x x)) (eqb_refl x))

pub one_in_range : (n x : ℕ) → AtomOrBot n x → T (set_in_range n (one x))
unfolding set_in_range
one_in_range n x h = lt→ltb (one x) (2 ^ n) (one_below n x h)

-- An atom or ⊥, as the code makes its set.
pub single_one : (n x : ℕ) → n ≤ limit → AtomOrBot n x → single_or_empty x ≡ one x
unfolding one
single_one n x h (inl l) = single_bits x (omega arith) ∙ rw (ne_eqb x bot (λ e. omega (arith, limit_small)))
single_one n x h (inr e) = rw e (single_none bot limit_small)

-- ---- and back, also over more atoms

pub flat_in_range_lem : (n : ℕ) (f : Flat) → FlatBelow n f → T (flat_in_range n f)
unfolding flat_in_range set_in_range
flat_in_range_lem n f h = T_and (ltb f.left (2 ^ n)) (ltb f.right (2 ^ n)) (lt→ltb f.left (2 ^ n) h.left) (lt→ltb f.right (2 ^ n) h.right)

pub atom_in_range : (n m x : ℕ) → n ≤ m → AtomOrBot n x → T (atom_or_bot m x)
unfolding atom_or_bot
atom_in_range n m x h (inl l) = T_inl (ltb x m) (eqb x bot) (lt→ltb x m (omega arith))
atom_in_range n m x h (inr e) = T_inr (ltb x m) (eqb x bot) (true_T (eq-eqb x bot e))

pub implication_in_range_lem : (n m : ℕ) → n ≤ m → (i : Implication) → ImplicationBelow n i → T (implication_in_range m i)
unfolding implication_in_range
implication_in_range_lem n m h i r =
    T_and (ltb i.a m && atom_or_bot m i.b) (atom_or_bot m i.c)
    (T_and (ltb i.a m) (atom_or_bot m i.b) (lt→ltb i.a m (omega (arith, r.a))) (atom_in_range n m i.b h r.b))
    (atom_in_range n m i.c h r.c)

-- ---- as the code tests it

-- A set of atoms below n.
pub within_below : (s n : ℕ) → s < 2 ^ limit → within s (below n) ≡ set_in_range n s
unfolding set_in_range
within_below s n l = T_iff (within s (below n)) (ltb s (2 ^ n)) (λ t. lt→ltb s (2 ^ n) (small t)) (λ t. bits_within s (below n) (inside (ltb→lt s (2 ^ n) t)))
  where
    small : T (within s (below n)) → s < 2 ^ n
    small t = lt_of_bits n s (λ i k. elim (dec_lt i limit) [
      | yes h ↦ omega (arith, within_bits s (below n) t i, below_out n i (omega arith))
      | no h ↦ bit_past limit s i l (omega arith)
    ])

    inside : s < 2 ^ n → (i : ℕ) → bit_at s i ≤ bit_at (below n) i
    inside h i = elim (dec_lt i (min n limit)) [
      | yes k ↦ omega (arith, bit_le s i, below_in n i k)
      | no k ↦ elim (dec_lt i n) [
        | yes j ↦ omega (arith, bit_past limit s i l (omega arith))
        | no j ↦ omega (arith, bit_past n s i h (omega arith))
      ]
    ]
