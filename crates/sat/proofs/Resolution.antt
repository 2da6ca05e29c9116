-- A resolvent is true wherever both its clauses are.
use Rattle.std.proofs.Common.{◌≡◌, ℕ, ◌-◌, ◌<◌, max, ap, ◌∙◌, arith}
use native.Mathlib.Decide.{dec_lt, ℕ_discrete}
use Rattle.atoms.specs.Sets.{bit_at, union, minus}
use Rattle.atoms.specs.Words.{single_or_empty}
use Rattle.atoms.proofs.Bits.{bit_le}
use Rattle.sat.specs.Table.{Meets, Holds}
use Rattle.sat.proofs.Table.{union_bits, minus_bits, single_other}

-- The one clause loses the atom from its left side, the other from its right. For every atom, there or not.
module _ (m atom s l r l1 r1 l2 r2 d e : ℕ) (es : s ≡ single_or_empty atom) (ed : d ≡ minus l1 s) (ee : e ≡ minus r2 s) (el : l ≡ union d l2) (er : r ≡ union r1 e) where
  left_bits : (i : ℕ) → bit_at l i ≡ max (bit_at l1 i - bit_at s i) (bit_at l2 i)
  left_bits i = union_bits d l2 l el i ∙ ap (λ (z : ℕ). max z (bit_at l2 i)) (minus_bits l1 s d ed i)

  right_bits : (i : ℕ) → bit_at r i ≡ max (bit_at r1 i) (bit_at r2 i - bit_at s i)
  right_bits i = union_bits r1 e r er i ∙ ap (max (bit_at r1 i)) (minus_bits r2 s e ee i)

  other : (i : ℕ) → (atom ≡ i → ⊥) → bit_at s i ≡ 0
  other i n = ap (λ (z : ℕ). bit_at z i) es ∙ single_other atom i n

  -- Where m has the atom, the one speaks; where not, the other.
  pub resolve : Holds l1 r1 m → Holds l2 r2 m → Holds l r m
  resolve h1 h2 w = elim (dec_lt 0 (bit_at m atom)) [
    | yes k ↦ here (h1 (λ i. elim (ℕ_discrete atom i) [
      | yes n ↦ omega (arith, ap (bit_at m) n, bit_le l1 i)
      | no n ↦ omega (arith, left_bits i, w i, other i n)
    ]))
    | no k ↦ there k (h2 (λ i. omega (arith, left_bits i, w i)))
  ]
    where
      here : Meets r1 m → Meets r m
      here t = (t.0, omega (arith, right_bits t.0, t.1, bit_le r t.0), t.2)

      there : (0 < bit_at m atom → ⊥) → Meets r2 m → Meets r m
      there k t = (
        t.0,
        omega (arith, right_bits t.0, t.1, bit_le r t.0, other t.0 (λ n. k (omega (arith, ap (bit_at m) n, t.2)))),
        t.2,
      )
