-- The machine's words of 64 bits against the definitions: what the proofs of the functions cite.
use mathlib.Core.Path.{◌≡◌, refl, sym, ap, ◌∙◌, subst}
use mathlib.Core.Bool.{Bool}
use mathlib.Core.List.{List}
use Prim.Native.Nat.{ℕ, suc, ◌+◌, ◌-◌, ◌*◌, ◌^◌, ◌%◌, ◌≤◌, ◌<◌, min}
use native.Mathlib.Decide.{dec_lt}
use native.Mathlib.Nat.{one-mul, le_of_eq, zero-add}
use native.Mathlib.Omega.{arith}
use borrow.Author.Tests.{lt-ltb, le-ltb}
use lib.Dec.{T, eqb, ltb, eqb→eq}
use lib.Count.{count_leading_zeros, leading_top}
use lib.ListN.{length, set, length-set}
use lib.Pow.{pow_pos, pow_mono, pow-lt, ones_lt, shl_exact}
use lib.Seq.{get_or-set_same, get_or-set_other}
use Rattle.atoms.specs.Sets.{bit_at, has, limit, single}
use Rattle.atoms.specs.declared.AtomSet.{AtomSet}
use Rattle.atoms.proofs.Truth.{by_cond, false_T}
use Rattle.atoms.proofs.Members.{has_empty, has_single}
use Rattle.atoms.proofs.Bits.{bit_ones, bit_past}
use Rattle.atoms.specs.Words.{num, every_atom, single_or_empty, below, HighestOrEmpty, HighestNumber, words, row_of, row_count, RowSet, RowsSet}

-- ⊥ is atom number 255, past every atom.
pub limit_small : limit ≤ 255
unfolding limit
limit_small = omega arith

-- What the crates above know of the limit: there is room for 64 atoms, and a set has at most 20 decimal digits.
pub limit_least : 64 ≤ limit
unfolding limit
limit_least = omega arith

pub set_digits : 2 ^ limit ≤ 10 ^ 20
unfolding limit
set_digits = omega arith

pub num_empty : num (record { bits = 0 }) ≡ 0
unfolding num
num_empty = refl

-- The derived test of two sets is that of their numbers.
abbrev pub derived_same : AtomSet → AtomSet → Bool
derived_same a b = eqb a.bits b.bits

pub same_sets : (a b : AtomSet) → derived_same a b ≡ eqb (num a) (num b)
unfolding num
same_sets a b = refl

-- Every atom, bit by bit.
pub every_atom_lem : (i : ℕ) → i < limit → bit_at every_atom i ≡ 1
unfolding every_atom
every_atom_lem i h = bit_ones limit i h

pub every_past : (i : ℕ) → limit ≤ i → bit_at every_atom i ≡ 0
unfolding every_atom
every_past i h = bit_past limit (2 ^ limit - 1) i (ones_lt limit) h

-- The atoms below n, bit by bit.
pub below_in : (n i : ℕ) → i < min n limit → bit_at (below n) i ≡ 1
unfolding below
below_in n i h = bit_ones (min n limit) i h

pub below_out : (n i : ℕ) → min n limit ≤ i → bit_at (below n) i ≡ 0
unfolding below
below_out n i h = bit_past (min n limit) (2 ^ min n limit - 1) i (ones_lt (min n limit)) h

-- One atom or none, bit by bit.
pub single_bits : (i : ℕ) → i < limit → single_or_empty i ≡ 2 ^ i
unfolding single_or_empty
single_bits i h = rw (lt-ltb i limit h)

pub single_none : (i : ℕ) → limit ≤ i → single_or_empty i ≡ 0
unfolding single_or_empty
single_none i h = rw (le-ltb i limit h)

pub has_single_or_empty : (i j : ℕ) → T (has (single_or_empty i) j) → i ≡ j
unfolding single_or_empty
has_single_or_empty i j =
    by_cond (λ s. T (has s j) → i ≡ j) (ltb i limit) (single i) 0 (λ e t. eqb→eq i j (subst T (has_single i j) t)) (λ e t. absurd (false_T (has_empty j) t))

-- `1 << i`.
pub one_shl : (i : ℕ) → i < 64 → 1 * 2 ^ i % 2 ^ 64 ≡ 2 ^ i
one_shl i h = shl_exact 1 i 64 (omega arith) (omega arith) ∙ one-mul (2 ^ i)

pub single_word : (i : ℕ) → i < 64 → 1 * 2 ^ i % 2 ^ 64 ≡ single_or_empty i
unfolding single_or_empty limit
single_word i h = rw (lt-ltb i 64 h) (one_shl i h)

pub single_past : (i : ℕ) → 64 ≤ i → 0 ≡ single_or_empty i
unfolding single_or_empty limit
single_past i h = rw (le-ltb i 64 h)

pub below_word : (n : ℕ) → n < 64 → 1 * 2 ^ n % 2 ^ 64 - 1 ≡ below n
unfolding below limit
below_word n h = ap (λ (x : ℕ). x - 1) (one_shl n h ∙ ap (λ (k : ℕ). 2 ^ k) (omega arith))

pub below_past : (n : ℕ) → 64 ≤ n → 2 ^ 64 - 1 ≡ below n
unfolding below limit
below_past n h = let e : 64 ≡ min n 64 = omega arith in ap (λ (k : ℕ). 2 ^ k - 1) e

-- The count of leading zeros of a word finds its highest atom.
pub leading_small : (a : ℕ) → 0 < a → a < 2 ^ 64 → count_leading_zeros 64 a ≤ 63
leading_small a p h = let t = leading_top 64 a p h in omega arith

pub highest_word : (a : ℕ) → 0 < a → a < 2 ^ 64 → HighestNumber a (63 - count_leading_zeros 64 a)
highest_word a p h =
    let t = leading_top 64 a p h in
    let here : t.0 ≡ 63 - count_leading_zeros 64 a = omega (arith, t.1) in
    record {
      empty = λ e. absurd (omega arith);
      member = λ _. subst (λ (j : ℕ). single j ≤ a) here t.2;
      above = subst (λ (j : ℕ). a < single (suc j)) here t.3;
    }

pub highest_none : (a : ℕ) → a ≡ 0 → HighestNumber a 64
unfolding limit
highest_none a e = record { empty = λ _. refl; member = λ h. absurd (omega arith); above = omega arith }

-- The highest atom alone, by its number.
pub highest_single : (s r x : ℕ) → s < 2 ^ limit → HighestNumber s r → x ≡ single_or_empty r → HighestOrEmpty s x
highest_single s r x l n e = record {
  empty = λ z. e ∙ single_none r (le_of_eq (sym (n.empty z)));
  highest = λ p. record { atom = r; alone = e ∙ single_bits r (small p); member = n.member p; above = n.above };
  bounded = elim (dec_lt r limit) [
    | yes k ↦ subst (λ (z : ℕ). z < 2 ^ limit) (sym (e ∙ single_bits r k)) (pow-lt k)
    | no k ↦ subst (λ (z : ℕ). z < 2 ^ limit) (sym (e ∙ single_none r (omega arith))) (pow_pos limit)
  ];
}
  where
    small : 0 < s → r < limit
    small p = elim (dec_lt r limit) [ yes k ↦ k | no k ↦ absurd (omega (arith, n.member p, pow_mono {i = limit} {j = r} (omega arith))) ]

-- A store in a table of words, and none past its end.
pub set_row : (t : List ℕ) (i x : ℕ) → i < length t → RowSet t i x (set t i x)
unfolding row_of row_count
set_row t i x h =
    record { size = length-set t i x; written = λ _. get_or-set_same t i x 0 h; others = λ j d. get_or-set_other t i j x 0 d }

pub keep_row : (t : List ℕ) (i x : ℕ) → length t ≤ i → RowSet t i x t
unfolding row_count
keep_row t i x h = record { size = refl; written = λ k. absurd (omega arith); others = λ j d. refl }

-- Rows written one after the other, until all are or the table ends.
module _ (before : List ℕ) (at : ℕ) (from : List ℕ) where
  pub rows_none : RowsSet before at from 0 before
  rows_none = record { size = refl; written = λ i h. absurd (omega arith); others = λ j d. refl }

  pub rows_more : (i j x : ℕ) (mid after : List ℕ) → j ≡ at + i → x ≡ row_of from i → RowsSet before at from i mid → RowSet mid j x after → RowsSet before at from (i + 1) after
  unfolding row_count
  rows_more i j x mid after e ex h r = record {
    size = r.size ∙ h.size;
    written = λ k l room. elim (dec_lt k i) [
      | yes m ↦ r.others (at + k) (λ d. absurd (omega arith)) ∙ h.written k m room
      | no m ↦
          let same : i ≡ k = omega arith in
          subst (λ (z : ℕ). row_of after (at + z) ≡ row_of from z) same (subst (λ (z : ℕ). row_of after z ≡ row_of from i) e (r.written (omega (arith, h.size, ap (λ (z : ℕ). at + z) same)) ∙ ex))
    ];
    others = λ k d. r.others k (λ z. d i (omega arith) (z ∙ e)) ∙ h.others k (λ n l z. d n (omega arith) z);
  }

  pub rows_end : (i count : ℕ) (after : List ℕ) → i ≤ count → row_count after ≤ at + i → RowsSet before at from i after → RowsSet before at from count after
  unfolding row_count
  rows_end i count after l e h = record {
    size = h.size;
    written = λ k m room. h.written k (omega (arith, h.size)) room;
    others = λ j d. h.others j (λ k m z. d k (omega arith) z);
  }

-- Rows written from the first row on.
pub rows_first : (before from after : List ℕ) (count : ℕ) → RowsSet before 0 from count after → (i : ℕ) → i < count → i < row_count before → row_of after i ≡ row_of from i
rows_first before from after count w i h l = subst (λ (j : ℕ). row_of after j ≡ row_of from i) (zero-add i) (w.written i h (omega arith))

-- A table of k rows' words has k rows.
pub row_count_lem : (t : List ℕ) (k : ℕ) → length t ≡ k * words → row_count t ≡ k
unfolding row_count words
row_count_lem t k e = omega (arith, e)

pub row_count_words : (t : List ℕ) (k : ℕ) → length t ≡ k → row_count t ≡ k
unfolding words
row_count_words t k e = row_count_lem t k (omega (arith, e))

pub same_rows : (a b : List ℕ) → length a ≡ length b → row_count a ≡ row_count b
unfolding row_count
same_rows a b e = e
