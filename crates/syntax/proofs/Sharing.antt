-- One name for each formula: rows that stand for the same formula are one row.
use mathlib.Core.List.{List, [], ◌∷◌, ◌++◌, append_assoc}
use mathlib.Core.Path.{◌≡◌, refl, sym, ◌∙◌, ap, subst}
use Prim.Native.Nat.{ℕ, zero, suc, ◌≤◌, ◌<◌}
use native.Mathlib.Decide.{dec_lt}
use native.Mathlib.Omega.{arith}
use lib.Dec.{ltb}
use lib.ListN.{length, get_or}
use borrow.Author.Tests.{lt-ltb, ltb-false, ltb-true}
use Rattle.atoms.proofs.Truth.{by_cond}
use Rattle.ipl.specs.Formula.{Formula, iff}
use Rattle.syntax.specs.Nodes.{Connective, And, Or, Implies, Entry, letter, falsum, compound, Named, index_of, with_entry, with_formula, nodes}
use Rattle.syntax.specs.Nodes.{connected, entry_formula, formulas_after, formula_at, Earlier, WellOrdered, Once}
use Rattle.syntax.specs.Sharing.{completed, StandsIn, Firsts, none, new, again, NamesOf}
use Rattle.syntax.specs.Table.{with_equivalence}
use Rattle.syntax.proofs.Growth.{connected_named}
use Rattle.syntax.proofs.Once.{found, formula_once, entry_once, none_once, table_once}
use Rattle.syntax.proofs.Stands.{formulas_snoc, size_is, row_formula, Stands, compound_stands, formula_stands, left_inside, left_is, none_ordered, table_ordered}

-- ---- formulas have one form

record SameParts (c d : Connective) (p q r s : Formula) : Type 0 where
  connective : c ≡ d
  left : p ≡ r
  right : q ≡ s

same_parts : (c d : Connective) (p q r s : Formula) → connected c p q ≡ connected d r s → SameParts c d p q r s
unfolding connected
same_parts And And p q r s e = record { connective = refl; left = cc; right = cc }
same_parts And Or p q r s e = let z : ◌≡◌ {A = ℕ} 0 1 = cc in absurd (omega arith)
same_parts And Implies p q r s e = let z : ◌≡◌ {A = ℕ} 0 1 = cc in absurd (omega arith)
same_parts Or And p q r s e = let z : ◌≡◌ {A = ℕ} 0 1 = cc in absurd (omega arith)
same_parts Or Or p q r s e = record { connective = refl; left = cc; right = cc }
same_parts Or Implies p q r s e = let z : ◌≡◌ {A = ℕ} 0 1 = cc in absurd (omega arith)
same_parts Implies And p q r s e = let z : ◌≡◌ {A = ℕ} 0 1 = cc in absurd (omega arith)
same_parts Implies Or p q r s e = let z : ◌≡◌ {A = ℕ} 0 1 = cc in absurd (omega arith)
same_parts Implies Implies p q r s e = record { connective = refl; left = cc; right = cc }

letter_alone : (l : ℕ) (c : Connective) (p q : Formula) → Formula.letter l ≡ connected c p q → ⊥
unfolding connected
letter_alone l And p q e = let z : ◌≡◌ {A = ℕ} 0 1 = cc in omega arith
letter_alone l Or p q e = let z : ◌≡◌ {A = ℕ} 0 1 = cc in omega arith
letter_alone l Implies p q e = let z : ◌≡◌ {A = ℕ} 0 1 = cc in omega arith

falsum_alone : (c : Connective) (p q : Formula) → Formula.falsum ≡ connected c p q → ⊥
unfolding connected
falsum_alone And p q e = let z : ◌≡◌ {A = ℕ} 0 1 = cc in omega arith
falsum_alone Or p q e = let z : ◌≡◌ {A = ℕ} 0 1 = cc in omega arith
falsum_alone Implies p q e = let z : ◌≡◌ {A = ℕ} 0 1 = cc in omega arith

module _ (T : List Entry) (ordered : WellOrdered T) (once : Once T) where
  abbrev F : List Formula
  F = formulas_after [] T

  abbrev formula : ℕ → Formula
  formula i = get_or F i Formula.falsum

  row_is : (i : ℕ) → i < length T → formula i ≡ entry_formula F (get_or T i falsum)
  unfolding formula_at
  row_is i h = row_formula T ordered i h

  -- ---- one row

  -- Rows below n have their formulas alone.
  abbrev Alone : ℕ → Type 0
  Alone n = (i j : ℕ) → i < n → i < length T → j < length T → formula i ≡ formula j → i ≡ j

  -- Entries are the same where their formulas are.
  module _ (n : ℕ) (ih : Alone n) (small : n ≤ length T) (j : ℕ) (h : j < length T) where
    same_entry : (x y : Entry) → Earlier n x → Earlier j y → entry_formula F x ≡ entry_formula F y → x ≡ y
    unfolding entry_formula
    same_entry (letter k) (letter l) u v e = cc
    same_entry (letter k) falsum u v e = let z : ◌≡◌ {A = ℕ} 0 1 = cc in absurd (omega arith)
    same_entry (letter k) (compound d a b) u v e = absurd (letter_alone k d _ _ e)
    same_entry falsum (letter l) u v e = let z : ◌≡◌ {A = ℕ} 0 1 = cc in absurd (omega arith)
    same_entry falsum falsum u v e = refl
    same_entry falsum (compound d a b) u v e = absurd (falsum_alone d _ _ e)
    same_entry (compound c a b) (letter l) u v e = absurd (letter_alone l c _ _ (sym e))
    same_entry (compound c a b) falsum u v e = absurd (falsum_alone c _ _ (sym e))
    same_entry (compound c a b) (compound d i k) u v e =
        let s = same_parts c d _ _ _ _ e in
        let left = ih a i u.0 (omega (arith, u.0)) (omega (arith, v.0)) s.left in
        let right = ih b k u.1 (omega (arith, u.1)) (omega (arith, v.1)) s.right in
        rw (s.connective, left, right)

  alone : (n : ℕ) → n ≤ length T → Alone n
  alone zero s i j l h k e = absurd (omega arith)
  alone (suc n) s i j l h k e = elim (dec_lt i n) [
    | yes below ↦ alone n (omega arith) i j below h k e
    | no above ↦
        let last : i ≡ n = omega arith in
        let same = same_entry n (alone n (omega arith)) (omega arith) j k (get_or T i falsum) (get_or T j falsum) (subst (λ (m : ℕ). Earlier m (get_or T i falsum)) last (ordered i h)) (ordered j k)
        (sym (row_is i h) ∙ e ∙ row_is j k) in
        sym (once i h) ∙ ap (λ (x : Entry). index_of x T) same ∙ once j k
  ]

  -- ---- found again

  entry_again : (e : Entry) (i : ℕ) → i < length T → get_or T i falsum ≡ e → with_entry T e ≡ record { table = T; root = i }
  unfolding with_entry
  entry_again e i h q =
      let at : index_of e T ≡ i = ap (λ (x : Entry). index_of x T) (sym q) ∙ once i h in
      rw (at, lt-ltb i (length T) h)

  -- The parts of a compound's row.
  record Parts (c : Connective) (p q : Formula) (x : Entry) (i : ℕ) : Type 0 where
    left : ℕ
    right : ℕ
    entry : x ≡ compound c left right
    left_before : left < i
    right_before : right < i
    left_stands : formula left ≡ p
    right_stands : formula right ≡ q

  parts : (c : Connective) (p q : Formula) (x : Entry) (i : ℕ) → Earlier i x → entry_formula F x ≡ connected c p q → Parts c p q x i
  unfolding entry_formula
  parts c p q (letter l) i u e = absurd (letter_alone l c p q e)
  parts c p q falsum i u e = absurd (falsum_alone c p q e)
  parts c p q (compound d a b) i u e =
      let s = same_parts d c _ _ p q e in
      record { left = a; right = b; entry = rw s.connective; left_before = u.0; right_before = u.1; left_stands = s.left; right_stands = s.right }

  abbrev Again : Formula → Type 0
  Again f = (i : ℕ) → i < length T → formula i ≡ f → with_formula T f ≡ record { table = T; root = i }

  letter_row : (l : ℕ) (x : Entry) → entry_formula F x ≡ Formula.letter l → x ≡ letter l
  unfolding entry_formula
  letter_row l (letter k) e = cc
  letter_row l falsum e = let z : ◌≡◌ {A = ℕ} 0 1 = cc in absurd (omega arith)
  letter_row l (compound c a b) e = absurd (letter_alone l c _ _ (sym e))

  falsum_row : (x : Entry) → entry_formula F x ≡ Formula.falsum → x ≡ falsum
  unfolding entry_formula
  falsum_row (letter k) e = let z : ◌≡◌ {A = ℕ} 0 1 = cc in absurd (omega arith)
  falsum_row falsum e = refl
  falsum_row (compound c a b) e = absurd (falsum_alone c _ _ (sym e))

  compound_again : (c : Connective) (p q : Formula) → Again p → Again q → (i : ℕ) → i < length T → formula i ≡ connected c p q
      → with_entry (with_formula (with_formula T p).table q).table (compound c (with_formula T p).root (with_formula (with_formula T p).table q).root) ≡ record { table = T; root = i }
  compound_again c p q again-p again-q i h e =
      let x = parts c p q (get_or T i falsum) i (ordered i h) (sym (row_is i h) ∙ e) in
      let left = again-p x.left (omega (arith, x.left_before)) x.left_stands in
      let right = again-q x.right (omega (arith, x.right_before)) x.right_stands in
      rw (left, right) (entry_again (compound c x.left x.right) i h x.entry)

  pub found_again : (f : Formula) → Again f
  unfolding with_formula connected
  found_again (Formula.letter l) i h e = entry_again (letter l) i h (letter_row l _ (sym (row_is i h) ∙ e))
  found_again Formula.falsum i h e = entry_again falsum i h (falsum_row _ (sym (row_is i h) ∙ e))
  found_again (Formula.and p q) i h e = compound_again And p q (found_again p) (found_again q) i h e
  found_again (Formula.or p q) i h e = compound_again Or p q (found_again p) (found_again q) i h e
  found_again (Formula.implies p q) i h e = compound_again Implies p q (found_again p) (found_again q) i h e

-- ---- a compound's parts, and its row

module _ (T : List Entry) (ordered : WellOrdered T) (c : Connective) (p q : Formula) where
  abbrev left_named : Named
  left_named = with_formula T p

  abbrev right_named : Named
  right_named = with_formula left_named.table q

  abbrev whole_named : Named
  whole_named = with_entry right_named.table (compound c left_named.root right_named.root)

  left_stands : Stands T left_named p
  left_stands = formula_stands p T ordered

  right_stands : Stands left_named.table right_named q
  right_stands = formula_stands q left_named.table left_stands.ordered

  left_row : (left_named.root < length right_named.table) × (formula_at right_named.table left_named.root ≡ p)
  left_row = (left_inside T _ _ left_stands _ _ right_stands, left_is T _ _ left_stands _ _ right_stands)

  whole_stands : Stands right_named.table whole_named (connected c p q)
  whole_stands = compound_stands T _ _ left_stands _ _ right_stands c

-- p = q by the rows of p and q.
pub equivalence_named : (T : List Entry) → WellOrdered T → Once T → (p q : Formula)
    → with_formula T (iff p q) ≡ with_equivalence (with_formula T p).root (with_formula (with_formula T p).table q).table (with_formula (with_formula T p).table q).root
unfolding with_formula with_equivalence formula_at
equivalence_named T ordered once p q = rw (right, left)
  where
    a : Named
    a = with_formula T p

    b : Named
    b = with_formula a.table q

    x : Named
    x = with_entry b.table (compound Implies a.root b.root)

    x_stands : Stands b.table x (connected Implies p q)
    x_stands = whole_stands T ordered Implies p q

    x_once : Once x.table
    x_once = entry_once b.table _ (formula_once q a.table (formula_once p T once))

    right : with_formula x.table q ≡ record { table = x.table; root = b.root }
    right = let y = right_stands T ordered Implies p q in
        found_again x.table x_stands.ordered x_once q b.root (omega (arith, y.inside, x_stands.grown)) (x_stands.kept b.root y.inside ∙ y.is)

    left : with_formula x.table p ≡ record { table = x.table; root = a.root }
    left = let y = left_row T ordered Implies p q in
        found_again x.table x_stands.ordered x_once p a.root (omega (arith, y.0, x_stands.grown)) (x_stands.kept a.root y.0 ∙ y.1)

-- ---- the rows are the first of each part

module _ (T : List Entry) (ordered : WellOrdered T) (once : Once T) (l : List Formula) (x : Firsts l (formulas_after [] T)) (e : Entry) (h : Earlier (length T) e) where
  abbrev p : Formula
  p = entry_formula (formulas_after [] T) e

  -- A formula that stands in the table is found.
  lacks : length T ≤ index_of e T → StandsIn (formulas_after [] T) p → ⊥
  lacks new_row (i, w, q) =
      let inside : i < length T = omega (arith, size_is T) in
      let same = same_entry T ordered once (length T) (alone T ordered once (length T) (omega arith)) (omega arith) i inside e (get_or T i falsum) h (ordered i inside)
      (sym q ∙ row_is T ordered once i inside) in
      let at : index_of e T ≡ i = ap (λ (y : Entry). index_of y T) same ∙ once i inside in
      omega arith

  entry_firsts : Firsts (l ++ (p ∷ [])) (formulas_after [] (with_entry T e).table)
  unfolding with_entry
  entry_firsts = by_cond (λ (U : List Entry). Firsts (l ++ (p ∷ [])) (formulas_after [] U)) (ltb (index_of e T) (length T)) T (T ++ (e ∷ []))
      (λ t.
      let k = ltb-true (index_of e T) (length T) t in
      let stands = row_is T ordered once (index_of e T) k ∙ ap (entry_formula (formulas_after [] T)) (found T e k) in
      again l _ p x (index_of e T, omega (arith, size_is T), stands))
      (λ t. subst (Firsts (l ++ (p ∷ []))) (sym (formulas_snoc T [] e)) (new l _ p x (lacks (ltb-false (index_of e T) (length T) t))))

abbrev Extends : Formula → Type 0
Extends f = (T : List Entry) → WellOrdered T → Once T → (l : List Formula) → Firsts l (formulas_after [] T) → Firsts (l ++ completed f) (formulas_after [] (with_formula T f).table)

compound_firsts : (c : Connective) (p q : Formula) → Extends p → Extends q → (T : List Entry) → WellOrdered T → Once T → (l : List Formula) → Firsts l (formulas_after [] T)
    → Firsts (l ++ (completed p ++ (completed q ++ (connected c p q ∷ [])))) (formulas_after [] (with_formula T (connected c p q)).table)
unfolding formula_at entry_formula
compound_firsts c p q of-p of-q T o s l x =
    let y = of-q (with_formula T p).table (left_stands T o c p q).ordered (formula_once p T s) (l ++ completed p) (of-p T o s l x) in
    let b = with_formula (with_formula T p).table q in
    let all = entry_firsts b.table (right_stands T o c p q).ordered (formula_once q _ (formula_once p T s)) ((l ++ completed p) ++ completed q) y
    (compound c (with_formula T p).root b.root) ((left_row T o c p q).0, (right_stands T o c p q).inside) in
    rw (connected_named T c p q, sym (append_assoc l (completed p) (completed q ++ (connected c p q ∷ []))), sym (append_assoc (l ++ completed p) (completed q) (connected c p q ∷ [])))
    (rw ((left_row T o c p q).1, (right_stands T o c p q).is) at all)

formula_firsts : (f : Formula) → Extends f
unfolding with_formula connected completed entry_formula
formula_firsts (Formula.letter k) T o s l x = entry_firsts T o s l x (letter k) tt
formula_firsts Formula.falsum T o s l x = entry_firsts T o s l x falsum tt
formula_firsts (Formula.and p q) T o s l x = compound_firsts And p q (formula_firsts p) (formula_firsts q) T o s l x
formula_firsts (Formula.or p q) T o s l x = compound_firsts Or p q (formula_firsts p) (formula_firsts q) T o s l x
formula_firsts (Formula.implies p q) T o s l x = compound_firsts Implies p q (formula_firsts p) (formula_firsts q) T o s l x

-- For every formula.
pub names_of : (f : Formula) → NamesOf f
unfolding nodes formula_at formulas_after
names_of f = record {
  one = λ i j h k e. alone (nodes f).table (table_ordered f) (table_once f) (length (nodes f).table) (omega arith) i j h h k e;
  firsts = formula_firsts f [] none_ordered none_once [] none;
}
