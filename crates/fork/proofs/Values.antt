-- The values of a table's parts, row by row.
use mathlib.Core.List.{List, [], ◌∷◌}
use mathlib.Core.Path.{◌≡◌, refl, sym, ap, ap₂, ◌∙◌, subst}
use Prim.Native.Nat.{ℕ, zero, suc, ◌+◌, ◌-◌, ◌^◌, ◌≤◌, ◌<◌}
use native.Mathlib.Decide.{dec_lt}
use native.Mathlib.Omega.{arith}
use lib.Dec.{eqb}
use lib.ListN.{length, get_or, take, drop, replicate, length-replicate}
use borrow.Author.Tests.{eq-eqb, ne_eqb}
use Rattle.std.specs.Prelude.{Option, Some, None}
use Rattle.ipl.specs.Formula.{Formula}
use Rattle.syntax.specs.Nodes.{Connective, And, Or, Implies, Entry, letter, falsum, compound, same, index_of, connected, entry_formula, formulas_after, formula_at, Earlier, Once}
use Rattle.syntax.specs.Letters.{letters_of, letter_count, letters_in}
use Rattle.syntax.specs.Parts.{held, room}
use Rattle.syntax.specs.declared.Part.{Part}
use Rattle.syntax.specs.declared.Parts.{Parts}
use Rattle.syntax.proofs.Held.{held_length, held_row}
use Rattle.syntax.proofs.LetterCount.{letters_first, entry_at, letters_left}
use Rattle.syntax.proofs.Names.{once_tail}
use Rattle.syntax.proofs.Stands.{row_formula}
use Rattle.fork.specs.Fork.{whole, set_count}
use Rattle.fork.specs.Algebra.{value}
use Rattle.fork.specs.Screen.{assignment, set_of, most_letters}
use Rattle.fork.specs.Cells.{connected_sets, value_at, Tabled, cells, cell_at, entry_value, Cells, Writable, Written, Filled, FirstBelow, FirstIn}
use Rattle.fork.proofs.Digits.{place_set}

-- ---- the set of a letter

other_letter : (k l i : ℕ) (T : List Entry) → Once (letter k ∷ T) → i < length T → get_or T i falsum ≡ letter l → k ≡ l → ⊥
unfolding index_of same
other_letter k l i T o h e d =
    let here : index_of (letter l) (letter k ∷ T) ≡ suc i = ap (λ (x : Entry). index_of x (letter k ∷ T)) (sym e) ∙ o (suc i) (omega arith) in
    let first : index_of (letter l) (letter k ∷ T) ≡ 0 = rw (eq-eqb k l d) in
    omega arith

letter_set : (T : List Entry) (i l : ℕ) (sets : List ℕ) → Once T → i < length T → get_or T i falsum ≡ letter l
    → set_of (letters_of T) sets l ≡ get_or sets (letter_count (take i T)) 0
unfolding set_of letters_of letters_in
letter_set [] i l sets o h e = absurd (omega arith)
letter_set (letter k ∷ T) i l [] o h e = refl
letter_set (letter k ∷ T) zero l (s ∷ sets) o h e = rw (eq-eqb k l cc)
letter_set (letter k ∷ T) (suc i) l (s ∷ sets) o h e =
    rw (ne_eqb k l (other_letter k l i T o (omega arith) e)) (letter_set T i l sets (once_tail (letter k) T o) (omega arith) e)
letter_set (falsum ∷ T) zero l sets o h e = absurd (omega (arith, ap letters_in e))
letter_set (falsum ∷ T) (suc i) l sets o h e = letter_set T i l sets (once_tail falsum T o) (omega arith) e
letter_set (compound c a b ∷ T) zero l sets o h e = absurd (omega (arith, ap letters_in e))
letter_set (compound c a b ∷ T) (suc i) l sets o h e = letter_set T i l sets (once_tail (compound c a b) T o) (omega arith) e

letters_split : (T : List Entry) (i : ℕ) → letter_count (take i T) + letter_count (drop i T) ≡ letter_count T
unfolding letters_of
letters_split [] zero = refl
letters_split [] (suc i) = refl
letters_split (e ∷ T) zero = omega arith
letters_split (e ∷ T) (suc i) = omega (arith, letters_first e (take i T), letters_first e T, letters_split T i)

-- ---- one entry

pub connected_value : (v : ℕ → ℕ) (c : Connective) (p q : Formula) → value v (connected c p q) ≡ connected_sets c (value v p) (value v q)
unfolding value connected
connected_value v And p q = refl
connected_value v Or p q = refl
connected_value v Implies p q = refl

-- The first i rows hold the values of their parts under 17 assignments, the first of number n.
pub record FilledTo (p : Parts) (n : ℕ) (C : List ℕ) (place i : ℕ) : Type 0 where
  pub inside : i ≤ p.count
  pub good : Cells C
  pub placed : place + letter_count (drop i (held p)) ≡ most_letters
  pub values : (m j : ℕ) → m < i → j < set_count → cell_at C m j ≡ value_at (held p) (n + j) m

module _ (p : Parts) (letters : ℕ) (t : Tabled p letters) (n : ℕ) where
  abbrev T : List Entry
  T = held p

  pub filled_none : (C : List ℕ) → Cells C → FilledTo p n C (most_letters - letters) 0
  filled_none C g = record { inside = omega arith; good = g; placed = omega (arith, t.count, t.few); values = λ m j h l. absurd (omega arith) }

  module _ (C : List ℕ) (place i : ℕ) (f : FilledTo p n C place i) where
    pub filled_all : p.count ≤ i → Filled T n C
    filled_all h = record { good = f.good; values = λ m j l k. f.values m j (omega (arith, held_length p t.sound)) k }

    module _ (d : Part) (h : i < p.count) where
      inside_held : i < length T
      inside_held = omega (arith, held_length p t.sound)

      entry_is : get_or T i falsum ≡ entry_at p i d
      entry_is = held_row p t.sound i d h

      earlier : Earlier i (entry_at p i d)
      earlier = subst (Earlier i) entry_is (t.ordered i inside_held)

      pub row_writable : n ≤ set_count ^ most_letters → Writable C i (entry_at p i d) n
      row_writable k = record { good = f.good; inside = omega (arith, t.sound.bounded); earlier = earlier; numbered = k }

      module _ (j : ℕ) (l : j < set_count) where
        abbrev v : ℕ → ℕ
        v = set_of (letters_of T) (assignment (letter_count T) (n + j))

        formula_is : (e : Entry) → entry_at p i d ≡ e → formula_at T i ≡ entry_formula (formulas_after [] T) e
        formula_is e is = row_formula T t.ordered i inside_held ∙ ap (entry_formula (formulas_after [] T)) (entry_is ∙ is)

        row_value : (e : Entry) → entry_at p i d ≡ e → Earlier i e → entry_value C j (n + j) place e ≡ value_at T (n + j) i
        unfolding value_at value entry_formula formula_at letters_in
        row_value (letter x) is q =
            let split = letters_split T i in
            let one : letter_count (drop i T) ≡ 1 + letter_count (drop (i + 1) T) = letters_left p t.sound i d h ∙ ap (λ (e : Entry). letters_in e + letter_count (drop (i + 1) T)) is in
            place_set (letter_count T) (n + j) (letter_count (take i T)) place (omega (arith, t.count, t.few)) (omega arith) (omega (arith, f.placed, t.count, t.few))
            ∙ sym (ap (value v) (formula_is (letter x) is) ∙ letter_set T i x (assignment (letter_count T) (n + j)) t.once inside_held (entry_is ∙ is))
        row_value falsum is q = sym (ap (value v) (formula_is falsum is))
        row_value (compound c a b) is q =
            ap₂ (connected_sets c) (f.values a j q.0 l) (f.values b j q.1 l)
            ∙ sym (ap (value v) (formula_is (compound c a b) is) ∙ connected_value v c (formula_at T a) (formula_at T b))

      pub place_next : (x : ℕ) → x ≡ letters_in (entry_at p i d) → place + x + letter_count (drop (i + 1) T) ≡ most_letters
      place_next x e = omega (arith, f.placed, letters_left p t.sound i d h)

      pub filled_more : (D : List ℕ) → Written C i (entry_at p i d) n place D → (x : ℕ) → x ≡ letters_in (entry_at p i d) → FilledTo p n D (place + x) (i + 1)
      filled_more D w x e = record {
        inside = omega arith;
        good = w.good;
        placed = place_next x e;
        values = λ m j k l. elim (dec_lt m i) [
          | yes a ↦ w.kept (cells m + j) (omega arith) ∙ f.values m j a l
          | no a ↦ let last : m ≡ i = omega arith in
              subst (λ (m : ℕ). cell_at D m j ≡ value_at T (n + j) m) (sym last) (w.row j l ∙ row_value j l (entry_at p i d) refl earlier)
        ];
      }

-- ---- the first of 17

-- Cells that nothing was written to.
zeros : (n k : ℕ) → ◌≡◌ {A = ℕ} (get_or (replicate n 0) k 0) 0
zeros zero k = refl
zeros (suc n) zero = refl
zeros (suc n) (suc k) = zeros n k

pub no_cells : Cells (replicate (cells room) 0)
no_cells = record { sized = length-replicate {A = ℕ} (cells room) 0; sets = λ k. omega (arith, zeros (cells room) k) }

module _ (T : List Entry) (n : ℕ) (C : List ℕ) (f : Filled T n C) (root : ℕ) (h : root < length T) where
  same_test : (j : ℕ) → j < set_count → eqb (value_at T (n + j) root) whole ≡ eqb (cell_at C root j) whole
  same_test j l = ap (λ (s : ℕ). eqb s whole) (sym (f.values root j h l))

  pub first_in : (r : Option ℕ) → FirstBelow C root r → FirstIn T root n r
  first_in None b = λ j l. same_test j l ∙ b j l
  first_in (Some r) b = record { inside = b.inside; before = λ j l. same_test j (omega (arith, b.inside)) ∙ b.before j l; fails = same_test r b.inside ∙ b.fails }
