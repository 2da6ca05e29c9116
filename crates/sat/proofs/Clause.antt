-- What one clause adds. l and r are its sides, y and x what is known, a what is open of l and b what is open of r.
use Rattle.std.proofs.Common.{◌≡◌, ℕ, ◌-◌, ◌<◌, max, false, eqb, sym, ap, ◌∙◌, subst, le_refl, arith}
use native.Mathlib.Decide.{dec_lt, ℕ_discrete}
use borrow.Author.Tests.{eqb-false}
use Rattle.atoms.specs.Words.{num, HighestOrEmpty}
use Rattle.atoms.specs.Sets.{bit_at, union, minus, meets, Highest}
use Rattle.atoms.proofs.Bits.{bit_le, bit_zero, bit_other}
use Rattle.sat.specs.Table.{Within, Apart, Meets, Holds, Proper}
use Rattle.sat.specs.Knowledge.{PartialIs, Extends, Grown}
use Rattle.sat.specs.declared.known.Partial.{Partial}
use Rattle.sat.proofs.Table.{union_bits, minus_bits, meets_of}

-- A set that is its highest atom has no other.
only : (s : ℕ) → Highest s s → (i k : ℕ) → bit_at s i ≡ 1 → bit_at s k ≡ 1 → i ≡ k
only s h i k p q = sym (is i p) ∙ is k q
  where
    is : (i : ℕ) → bit_at s i ≡ 1 → h.atom ≡ i
    is i p = elim (ℕ_discrete h.atom i) [
      | yes d ↦ d
      | no d ↦ absurd (omega (arith, p, ap (λ (z : ℕ). bit_at z i) h.alone, bit_other h.atom i d))
    ]

pub positive : (s : ℕ) → eqb s 0 ≡ false → 0 < s
positive s e = elim (dec_lt 0 s) [ yes h ↦ h | no h ↦ absurd (eqb-false s 0 e (omega arith)) ]

module _ (l r y x a b : ℕ) (ea : a ≡ minus l y) (eb : b ≡ minus r x) where
  ha : (i : ℕ) → bit_at a i ≡ bit_at l i - bit_at y i
  ha = minus_bits l y a ea

  hb : (i : ℕ) → bit_at b i ≡ bit_at r i - bit_at x i
  hb = minus_bits r x b eb

  -- Nothing is open on the right: no atom of r is in a model.
  none_right : b ≡ 0 → (m : ℕ) → Extends y x m → Meets r m → ⊥
  none_right e m h w = omega (arith, hb w.0, ap (λ (z : ℕ). bit_at z w.0) e, bit_zero w.0, w.1, w.2, h.avoids w.0)

  -- Nothing is open on the left: every atom of l is in a model.
  all_left : a ≡ 0 → (m : ℕ) → Extends y x m → Within l m
  all_left e m h i = omega (arith, ha i, ap (λ (z : ℕ). bit_at z i) e, bit_zero i, h.includes i)

  pub conflict : a ≡ 0 → b ≡ 0 → (m : ℕ) → Extends y x m → Holds l r m → ⊥
  conflict za zb m h c = none_right zb m h (c (all_left za m h))

  -- One atom is open on the right and none on the left: it is in every model.
  force_has : a ≡ 0 → Highest b b → (y2 : ℕ) → y2 ≡ union y b → Proper y2 x → Grown (Holds l r) y x y2 x
  force_has za top y2 ey f = record {
    more_has = λ i. omega (arith, hy i);
    more_lacks = λ i. le_refl _;
    proper = f;
    keeps = λ m h c. record { includes = inside m h (c (all_left za m h)); avoids = h.avoids };
  }
    where
      hy : (i : ℕ) → bit_at y2 i ≡ max (bit_at y i) (bit_at b i)
      hy = union_bits y b y2 ey

      inside : (m : ℕ) → Extends y x m → Meets r m → Within y2 m
      inside m h w i = elim (dec_lt 0 (bit_at b i)) [
        | no d ↦ omega (arith, hy i, h.includes i)
        | yes d ↦
            let is : i ≡ w.0 = only b top i w.0 (omega (arith, bit_le b i)) (omega (arith, hb w.0, w.1, w.2, h.avoids w.0)) in
            omega (arith, hy i, bit_le y i, bit_le b i, ap (bit_at m) is, w.2)
      ]

  -- One atom is open on the left and none on the right: it is in no model.
  force_lacks : b ≡ 0 → Highest a a → (x2 : ℕ) → x2 ≡ union x a → Proper y x2 → Grown (Holds l r) y x y x2
  force_lacks zb top x2 ex f = record {
    more_has = λ i. le_refl _;
    more_lacks = λ i. omega (arith, hx i);
    proper = f;
    keeps = λ m h c. record { includes = h.includes; avoids = outside m h c };
  }
    where
      hx : (i : ℕ) → bit_at x2 i ≡ max (bit_at x i) (bit_at a i)
      hx = union_bits x a x2 ex

      -- Were the open atom in m, so were all of l, and none of r is.
      inside : (m i : ℕ) → Extends y x m → 0 < bit_at a i → 0 < bit_at m i → Within l m
      inside m i h d k j = elim (dec_lt 0 (bit_at a j)) [
        | no n ↦ omega (arith, ha j, h.includes j)
        | yes n ↦ omega (arith, k, bit_le l j, ap (bit_at m) (only a top i j (omega (arith, bit_le a i)) (omega (arith, bit_le a j))))
      ]

      outside : (m : ℕ) → Extends y x m → Holds l r m → Apart x2 m
      outside m h c i = elim (dec_lt 0 (bit_at a i)) [
        | no d ↦ omega (arith, hx i, h.avoids i)
        | yes d ↦ elim (dec_lt 0 (bit_at m i)) [
          | no k ↦ omega (arith, hx i, bit_le x i, bit_le a i)
          | yes k ↦ absurd (none_right zb m h (c (inside m i h d k)))
        ]
      ]

  -- What is open is not known.
  pub open_right : meets x b ≡ false
  open_right = meets_of x b (λ i. omega (arith, hb i, bit_le r i, bit_le x i))

  pub open_left : meets y a ≡ false
  open_left = meets_of y a (λ i. omega (arith, ha i, bit_le l i, bit_le y i))

  -- The same by the tests of the code: t is the highest open atom, and fills what is open.
  pub learn_has : (t : ℕ) (q : Partial) → a ≡ 0 → eqb b 0 ≡ false → HighestOrEmpty b t → t ≡ b → PartialIs q (union y t) x
      → Grown (Holds l r) y x (num q.has) (num q.lacks)
  learn_has t q za nb h same is =
      rw is.lacks_is
      (force_has za (subst (Highest b) same (h.highest (positive b nb))) (num q.has) (is.has_is ∙ ap (union y) same) (subst (Proper (num q.has)) is.lacks_is q.fair))

  pub learn_lacks : (t : ℕ) (q : Partial) → b ≡ 0 → eqb a 0 ≡ false → HighestOrEmpty a t → t ≡ a → PartialIs q y (union x t)
      → Grown (Holds l r) y x (num q.has) (num q.lacks)
  learn_lacks t q zb na h same is =
      rw is.has_is
      (force_lacks zb (subst (Highest a) same (h.highest (positive a na))) (num q.lacks) (is.lacks_is ∙ ap (union x) same) (subst (λ (z : ℕ). Proper z (num q.lacks)) is.has_is q.fair))
