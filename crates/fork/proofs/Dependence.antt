-- The value of a formula depends on the sets of its letters alone.
use mathlib.Core.List.{List, [], ◌∷◌, map}
use mathlib.Core.Path.{◌≡◌, refl, sym, ap, ap₂, ◌∙◌, subst}
use Prim.Native.Nat.{ℕ, zero, suc, ◌<◌}
use native.Mathlib.Decide.{dec_lt}
use native.Mathlib.Omega.{arith}
use lib.Dec.{eqb}
use lib.ListN.{length, get_or}
use borrow.Author.Tests.{eqb-true, eq-eqb}
use Rattle.atoms.proofs.Truth.{by_cond}
use Rattle.ipl.specs.Formula.{Formula}
use Rattle.syntax.specs.Nodes.{Entry, letter, falsum, compound, nodes, entry_formula, formulas_after, formula_at, Earlier, WellOrdered}
use Rattle.syntax.specs.Letters.{letters_of, letters_in}
use Rattle.syntax.proofs.Stands.{row_formula, table_stands, root_inside, table_ordered}
use Rattle.fork.specs.Algebra.{value}
use Rattle.fork.specs.Screen.{letters, set_of}
use Rattle.fork.specs.Cells.{connected_sets}
use Rattle.fork.proofs.Values.{connected_value}

-- Each letter that has a row gets its own set back.
own_set : (v : ℕ → ℕ) (T : List Entry) (i l : ℕ) → i < length T → get_or T i falsum ≡ letter l → set_of (letters_of T) (map v (letters_of T)) l ≡ v l
unfolding set_of letters_of letters_in
own_set v [] i l h e = absurd (omega arith)
own_set v (letter k ∷ T) zero l h e = let one : k ≡ l = cc in rw (eq-eqb k l one) (ap v one)
own_set v (letter k ∷ T) (suc i) l h e =
    by_cond (λ (s : ℕ). s ≡ v l) (eqb k l) (v k) (set_of (letters_of T) (map v (letters_of T)) l)
    (λ t. ap v (eqb-true k l t)) (λ t. own_set v T i l (omega arith) e)
own_set v (falsum ∷ T) zero l h e = absurd (omega (arith, ap letters_in e))
own_set v (falsum ∷ T) (suc i) l h e = own_set v T i l (omega arith) e
own_set v (compound c a b ∷ T) zero l h e = absurd (omega (arith, ap letters_in e))
own_set v (compound c a b ∷ T) (suc i) l h e = own_set v T i l (omega arith) e

-- Where the letters of a table have the same sets, its parts have the same values.
module _ (T : List Entry) (ordered : WellOrdered T) (u v : ℕ → ℕ) (same : (i l : ℕ) → i < length T → get_or T i falsum ≡ letter l → u l ≡ v l) where
  abbrev SameTo : ℕ → Type 0
  SameTo n = (i : ℕ) → i < n → i < length T → value u (formula_at T i) ≡ value v (formula_at T i)

  entry_same : (n : ℕ) → n < length T → SameTo n → (x : Entry) → get_or T n falsum ≡ x → Earlier n x
      → value u (entry_formula (formulas_after [] T) x) ≡ value v (entry_formula (formulas_after [] T) x)
  unfolding value entry_formula formula_at
  entry_same n s ih (letter l) is e = same n l s is
  entry_same n s ih falsum is e = refl
  entry_same n s ih (compound c a b) is e =
      connected_value u c _ _
      ∙ ap₂ (connected_sets c) (ih a e.0 (omega (arith, e.0))) (ih b e.1 (omega (arith, e.1)))
      ∙ sym (connected_value v c _ _)

  rows_same : (n : ℕ) → SameTo n
  rows_same zero i l h = absurd (omega arith)
  rows_same (suc n) i l h = elim (dec_lt i n) [
    | yes below ↦ rows_same n i below h
    | no above ↦ rw (row_formula T ordered i h) (entry_same i h (λ j k m. rows_same n j (omega arith) m) (get_or T i falsum) refl (ordered i h))
  ]

pub letters_decide : (v : ℕ → ℕ) (f : Formula) → value (set_of (letters f) (map v (letters f))) f ≡ value v f
letters_decide v f =
    let T = (nodes f).table in
    subst (λ (g : Formula). value (set_of (letters f) (map v (letters f))) g ≡ value v g) (table_stands f)
    (rows_same T (table_ordered f) (set_of (letters f) (map v (letters f))) v (own_set v T) (suc (nodes f).root) (nodes f).root (omega arith) (root_inside f))
