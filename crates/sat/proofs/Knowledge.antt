-- Laws of what is known: it grows, and what is left falls.
use Rattle.std.proofs.Common.{◌≡◌, ℕ, suc, ◌+◌, ◌-◌, ◌^◌, ◌<◌, ◌≤◌, Bool, true, false, ◌&&◌, T, eqb, eq-eqb, le_trans, le_refl, sym, ◌∙◌, subst, arith, eqb-true}
use native.Mathlib.Decide.{dec_lt}
use lib.Bits.{or_lt}
use Rattle.atoms.specs.Sets.{limit, union, meets}
use Rattle.atoms.specs.Words.{num}
use Rattle.atoms.specs.declared.AtomSet.{AtomSet}
use Rattle.atoms.proofs.Bits.{bits_le}
use Rattle.atoms.proofs.Machine.{derived_same, same_sets}
use Rattle.atoms.proofs.Truth.{false_T, T_and, true_T}
use Rattle.sat.specs.Table.{Within, Apart, Proper}
use Rattle.sat.specs.Knowledge.{Extends, Grown}
use Rattle.sat.specs.declared.known.Partial.{Partial}
use Rattle.sat.proofs.Table.{meets_Meets, apart_union}

module _ (P : ℕ → Type 0) where
  pub grown_refl : (y x : ℕ) → Proper y x → Grown P y x y x
  grown_refl y x f = record { more_has = λ i. le_refl _; more_lacks = λ i. le_refl _; proper = f; keeps = λ m h c. h }

  pub grown_trans : {y x y2 x2 y3 x3 : ℕ} → Grown P y x y2 x2 → Grown P y2 x2 y3 x3 → Grown P y x y3 x3
  grown_trans g h = record {
    more_has = λ i. le_trans (g.more_has i) (h.more_has i);
    more_lacks = λ i. le_trans (g.more_lacks i) (h.more_lacks i);
    proper = h.proper;
    keeps = λ m e c. h.keeps m (g.keeps m e c) c;
  }

  pub grown_weaken : (Q : ℕ → Type 0) → ((m : ℕ) → Q m → P m) → {y x y2 x2 : ℕ} → Grown P y x y2 x2 → Grown Q y x y2 x2
  grown_weaken Q w g = record { more_has = g.more_has; more_lacks = g.more_lacks; proper = g.proper; keeps = λ m e c. g.keeps m e (w m c) }

-- ---- the tests of the code

pub same_set : (a b : AtomSet) (r : Bool) → r ≡ derived_same a b → r ≡ true → num a ≡ num b
same_set a b r e t = eqb-true _ _ (sym (same_sets a b) ∙ sym e ∙ t)

pub differ : (p q : Partial) (r : Bool) → r ≡ (derived_same p.has q.has && derived_same p.lacks q.lacks) → r ≡ false
    → (num p.has ≡ num q.has) × (num p.lacks ≡ num q.lacks) → ⊥
differ p q r e f w =
    false_T (sym e ∙ f) (T_and _ _ (true_T (same_sets p.has q.has ∙ eq-eqb _ _ w.0)) (true_T (same_sets p.lacks q.lacks ∙ eq-eqb _ _ w.1)))

-- ---- one set more

proper_with : (y x t y2 : ℕ) → Proper y x → t < 2 ^ limit → Apart t x → y2 ≡ union y t → (y2 < 2 ^ limit) × Apart y2 x
proper_with y x t y2 f l a e = (subst (λ (z : ℕ). z < 2 ^ limit) (sym e) (or_lt limit y t f.has_below l), apart_union y t x y2 e f.apart a)

swapped : (y x : ℕ) → Apart y x → Apart x y
swapped y x f i = omega (arith, f i)

pub with_had : (y x t y2 : ℕ) → Proper y x → t < 2 ^ limit → Apart x t → y2 ≡ union y t → Proper y2 x
with_had y x t y2 f l a e =
    let w = proper_with y x t y2 f l (swapped _ _ a) e in
    record { apart = w.1; has_below = w.0; lacks_below = f.lacks_below }

pub with_lacked : (y x t x2 : ℕ) → Proper y x → t < 2 ^ limit → Apart y t → x2 ≡ union x t → Proper y x2
with_lacked y x t x2 f l a e =
    let w = proper_with x y t x2 (record { apart = swapped _ _ f.apart; has_below = f.lacks_below; lacks_below = f.has_below }) l (swapped _ _ a) e in
    record { apart = swapped _ _ w.1; has_below = f.has_below; lacks_below = w.0 }

-- ---- the measure: what is known is bounded, and grows where it changes

pub proper_room : (y x : ℕ) → Proper y x → y + x < 2 ^ suc limit
proper_room y x f = omega (arith, f.has_below, f.lacks_below)

pub room : (n a b t : ℕ) → a < b → a < n → n - a ≡ t → n - b < t
room n a b t p q e = omega arith

pub room_falls : (y x y2 x2 : ℕ) → Proper y x → Within y y2 → Within x x2 → ((y2 ≡ y) × (x2 ≡ x) → ⊥) → 2 ^ suc limit - (y2 + x2) < 2 ^ suc limit - (y + x)
room_falls y x y2 x2 f p q e = elim (dec_lt (y + x) (y2 + x2)) [
  | yes k ↦ omega (arith, proper_room y x f)
  | no k ↦
      let hy = bits_le y y2 p in
      let hx = bits_le x x2 q in
      absurd (e (omega arith, omega arith))
]

pub room_kept : (y x y2 x2 : ℕ) → Within y y2 → Within x x2 → 2 ^ suc limit - (y2 + x2) ≤ 2 ^ suc limit - (y + x)
room_kept y x y2 x2 p q = omega (arith, bits_le y y2 p, bits_le x x2 q)

-- What is known both ways fits nothing.
pub clash : (y x m : ℕ) → T (meets y x) → Extends y x m → ⊥
clash y x m t f = let w = meets_Meets y x t in omega (arith, w.1, w.2, f.includes w.0, f.avoids w.0)
