-- A formula's table stands for it: at the index of the whole, and with the parts of each compound before it.
use mathlib.Core.List.{List, [], ◌∷◌, ◌++◌}
use mathlib.Core.Path.{◌≡◌, refl, sym, ◌∙◌, ap, subst}
use Prim.Native.Nat.{ℕ, zero, suc, ◌+◌, ◌≤◌, ◌<◌}
use native.Mathlib.Decide.{dec_lt}
use native.Mathlib.Nat.{add-zero}
use native.Mathlib.Omega.{arith}
use lib.Dec.{ltb}
use lib.ListN.{length, get_or, length-append, get_or-append}
use lib.Seq.{get_or-append_seam, get_or_at}
use borrow.Author.Tests.{ltb-true, ltb-false}
use Rattle.atoms.proofs.Truth.{by_cond}
use Rattle.ipl.specs.Formula.{Formula}
use Rattle.syntax.specs.Nodes.{Connective, And, Or, Implies, Entry, letter, falsum, compound, Named, index_of, with_entry, with_formula, nodes}
use Rattle.syntax.specs.Nodes.{connected, entry_formula, formulas_after, formula_at, Earlier, WellOrdered}
use Rattle.syntax.proofs.Once.{index_end, found}

pub formulas_snoc : (T : List Entry) (F : List Formula) (e : Entry) → formulas_after F (T ++ (e ∷ [])) ≡ formulas_after F T ++ (entry_formula (formulas_after F T) e ∷ [])
unfolding formulas_after
formulas_snoc [] F e = refl
formulas_snoc (x ∷ T) F e = formulas_snoc T (F ++ (entry_formula F x ∷ [])) e

formulas_length : (T : List Entry) (F : List Formula) → length (formulas_after F T) ≡ length F + length T
unfolding formulas_after
formulas_length [] F = omega arith
formulas_length (x ∷ T) F = formulas_length T (F ++ (entry_formula F x ∷ [])) ∙ omega (arith, length-append F (entry_formula F x ∷ []))

pub size_is : (T : List Entry) → length (formulas_after [] T) ≡ length T
size_is T = formulas_length T [] ∙ omega arith

-- One row more: the others keep their formulas, and the new one has its own.
row_kept : (T : List Entry) (e : Entry) (i : ℕ) → i < length T → formula_at (T ++ (e ∷ [])) i ≡ formula_at T i
unfolding formula_at
row_kept T e i h =
    ap (λ (F : List Formula). get_or F i Formula.falsum) (formulas_snoc T [] e)
    ∙ get_or-append (formulas_after [] T) (entry_formula (formulas_after [] T) e ∷ []) Formula.falsum i (rw (size_is T) h)

row_new : (T : List Entry) (e : Entry) → formula_at (T ++ (e ∷ [])) (length T) ≡ entry_formula (formulas_after [] T) e
unfolding formula_at
row_new T e =
    ap (λ (F : List Formula). get_or F (length T) Formula.falsum) (formulas_snoc T [] e)
    ∙ get_or_at (formulas_after [] T) (entry_formula (formulas_after [] T) e) [] Formula.falsum (length T) (size_is T)

ordered_more : (T : List Entry) (e : Entry) → WellOrdered T → Earlier (length T) e → WellOrdered (T ++ (e ∷ []))
ordered_more T e w h i l = elim (dec_lt i (length T)) [
  | yes k ↦ subst (Earlier i) (sym (get_or-append T (e ∷ []) falsum i k)) (w i k)
  | no k ↦ let q : i ≡ length T = omega (arith, length-append T (e ∷ [])) in
      subst (λ (j : ℕ). Earlier j (get_or (T ++ (e ∷ [])) j falsum)) (sym q) (subst (Earlier (length T)) (sym (get_or-append_seam T e [] falsum)) h)
]

-- n has T's rows with their formulas, perhaps more, and its index stands for p.
pub record Stands (T : List Entry) (n : Named) (p : Formula) : Type 0 where
  pub grown : length T ≤ length n.table
  pub kept : (i : ℕ) → i < length T → formula_at n.table i ≡ formula_at T i
  pub ordered : WellOrdered n.table
  pub inside : n.root < length n.table
  pub is : formula_at n.table n.root ≡ p

-- Later rows do not change an earlier formula.
formulas_front : (T : List Entry) (F : List Formula) (i : ℕ) → i < length F → get_or (formulas_after F T) i Formula.falsum ≡ get_or F i Formula.falsum
unfolding formulas_after
formulas_front [] F i h = refl
formulas_front (x ∷ T) F i h =
    formulas_front T (F ++ (entry_formula F x ∷ [])) i (omega (arith, length-append F (entry_formula F x ∷ [])))
    ∙ get_or-append F (entry_formula F x ∷ []) Formula.falsum i h

-- Each row's formula is that of its entry, over the formulas of the table.
entry_front : (T : List Entry) (F : List Formula) (e : Entry) → Earlier (length F) e → entry_formula F e ≡ entry_formula (formulas_after F T) e
unfolding entry_formula
entry_front T F (letter l) h = refl
entry_front T F falsum h = refl
entry_front T F (compound c a b) h = rw (formulas_front T F a h.0, formulas_front T F b h.1)

row_at : (T : List Entry) (F : List Formula) (i : ℕ) → i < length T → Earlier (length F + i) (get_or T i falsum)
    → get_or (formulas_after F T) (length F + i) Formula.falsum ≡ entry_formula (formulas_after F T) (get_or T i falsum)
unfolding formulas_after
row_at [] F i l h = absurd (omega arith)
row_at (x ∷ T) F zero l h =
    let size : length F < length (F ++ (entry_formula F x ∷ [])) = omega (arith, length-append F (entry_formula F x ∷ [])) in
    ap (λ (k : ℕ). get_or (formulas_after (F ++ (entry_formula F x ∷ [])) T) k Formula.falsum) (add-zero (length F))
    ∙ formulas_front T (F ++ (entry_formula F x ∷ [])) (length F) size
    ∙ get_or-append_seam F (entry_formula F x) [] Formula.falsum
    ∙ entry_front (x ∷ T) F x (subst (λ (k : ℕ). Earlier k x) (add-zero (length F)) h)
row_at (x ∷ T) F (suc i) l h =
    let e : length F + suc i ≡ length (F ++ (entry_formula F x ∷ [])) + i = omega (arith, length-append F (entry_formula F x ∷ [])) in
    ap (λ (k : ℕ). get_or (formulas_after (F ++ (entry_formula F x ∷ [])) T) k Formula.falsum) e
    ∙ row_at T (F ++ (entry_formula F x ∷ [])) i (omega arith) (subst (λ (k : ℕ). Earlier k (get_or T i falsum)) e h)

pub row_formula : (T : List Entry) → WellOrdered T → (i : ℕ) → i < length T → formula_at T i ≡ entry_formula (formulas_after [] T) (get_or T i falsum)
unfolding formula_at
row_formula T w i l =
    let e : i ≡ 0 + i = omega arith in
    ap (λ (k : ℕ). get_or (formulas_after [] T) k Formula.falsum) e ∙ row_at T [] i l (subst (λ (k : ℕ). Earlier k (get_or T i falsum)) e (w i l))

-- An entry stands for its formula, found again or new.
entry_stands : (T : List Entry) (e : Entry) → WellOrdered T → Earlier (length T) e → Stands T (with_entry T e) (entry_formula (formulas_after [] T) e)
unfolding with_entry
entry_stands T e w h = by_cond (λ (U : List Entry). Stands T (record { table = U; root = index_of e T }) (entry_formula (formulas_after [] T) e)) (ltb (index_of e T) (length T)) T (T ++ (e ∷ []))
    (λ t.
    let k = ltb-true (index_of e T) (length T) t in
    record { grown = omega arith; kept = λ i l. refl; ordered = w; inside = k; is = row_formula T w (index_of e T) k ∙ ap (entry_formula (formulas_after [] T)) (found T e k) })
    (λ t.
    let q : index_of e T ≡ length T = omega (arith, ltb-false (index_of e T) (length T) t, index_end T e) in
    record {
      grown = omega (arith, length-append T (e ∷ []));
      kept = λ i l. row_kept T e i l;
      ordered = ordered_more T e w h;
      inside = omega (arith, length-append T (e ∷ []));
      is = ap (formula_at (T ++ (e ∷ []))) q ∙ row_new T e;
    })

-- Two parts, then a compound of them.
module _ (T : List Entry) (a : Named) (p : Formula) (x : Stands T a p) (b : Named) (q : Formula) (y : Stands a.table b q) where
  pub left_inside : a.root < length b.table
  left_inside = omega (arith, x.inside, y.grown)

  pub left_is : formula_at b.table a.root ≡ p
  left_is = y.kept a.root x.inside ∙ x.is

  pub compound_stands : (c : Connective) → Stands b.table (with_entry b.table (compound c a.root b.root)) (connected c p q)
  unfolding formula_at entry_formula
  compound_stands c =
      subst (Stands b.table (with_entry b.table (compound c a.root b.root))) (rw (left_is, y.is))
      (entry_stands b.table (compound c a.root b.root) y.ordered (left_inside, y.inside))

  compounded : (c : Connective) → Stands T (with_entry b.table (compound c a.root b.root)) (connected c p q)
  compounded c =
      let z = compound_stands c in
      record {
        grown = omega (arith, x.grown, y.grown, z.grown);
        kept = λ i h. z.kept i (omega (arith, x.grown, y.grown)) ∙ y.kept i (omega (arith, x.grown)) ∙ x.kept i h;
        ordered = z.ordered;
        inside = z.inside;
        is = z.is;
      }

pub formula_stands : (f : Formula) (T : List Entry) → WellOrdered T → Stands T (with_formula T f) f
unfolding with_formula connected entry_formula
formula_stands (Formula.letter l) T w = entry_stands T (letter l) w tt
formula_stands Formula.falsum T w = entry_stands T falsum w tt
formula_stands (Formula.and p q) T w = let x = formula_stands p T w in compounded T _ _ x _ _ (formula_stands q (with_formula T p).table x.ordered) And
formula_stands (Formula.or p q) T w = let x = formula_stands p T w in compounded T _ _ x _ _ (formula_stands q (with_formula T p).table x.ordered) Or
formula_stands (Formula.implies p q) T w = let x = formula_stands p T w in compounded T _ _ x _ _ (formula_stands q (with_formula T p).table x.ordered) Implies

pub none_ordered : WellOrdered []
none_ordered i h = absurd (omega arith)

-- The index of the whole stands for the formula.
pub table_stands : (f : Formula) → formula_at (nodes f).table (nodes f).root ≡ f
unfolding nodes
table_stands f = (formula_stands f [] none_ordered).is

-- It is a row of the table, and each compound comes after its parts.
pub root_inside : (f : Formula) → (nodes f).root < length (nodes f).table
unfolding nodes
root_inside f = (formula_stands f [] none_ordered).inside

pub table_ordered : (f : Formula) → WellOrdered (nodes f).table
unfolding nodes
table_ordered f = (formula_stands f [] none_ordered).ordered
