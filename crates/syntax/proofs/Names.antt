-- Letters and names: a table has at most one row more, for ⊥; and what stands within one another has rows of its own.
use mathlib.Core.List.{List, [], ◌∷◌}
use mathlib.Core.Path.{◌≡◌, refl, sym, ◌∙◌, ap}
use Prim.Native.Nat.{ℕ, zero, suc, max, ◌+◌, ◌-◌, ◌≤◌, ◌<◌}
use native.Mathlib.Decide.{dec_lt}
use native.Mathlib.Nat.{max-le, le-max_left, le-max_right}
use native.Mathlib.Omega.{arith}
use lib.ListN.{length, get_or}
use Rattle.atoms.proofs.Truth.{by_cond}
use Rattle.ipl.specs.Formula.{Formula}
use Rattle.syntax.specs.Nodes.{Connective, And, Or, Implies, Entry, letter, falsum, compound, same, index_of, nodes, named, connected, entry_formula, formulas_after, formula_at}
use Rattle.syntax.specs.Nodes.{Earlier, WellOrdered, Once}
use Rattle.syntax.specs.Refusal.{TooLarge}
use Rattle.syntax.specs.Parts.{room}
use Rattle.syntax.specs.Descent.{height, Exceeds, by_rows, by_height}
use Rattle.syntax.proofs.Once.{found, table_once}
use Rattle.syntax.proofs.Stands.{row_formula, table_stands, root_inside, table_ordered}

falsums : List Entry → ℕ
falsums [] = 0
falsums (letter l ∷ T) = falsums T
falsums (falsum ∷ T) = suc (falsums T)
falsums (compound c a b ∷ T) = falsums T

rows : (T : List Entry) → length T ≡ named T + falsums T
unfolding named falsums
rows [] = refl
rows (letter l ∷ T) = omega (arith, rows T)
rows (falsum ∷ T) = omega (arith, rows T)
rows (compound c a b ∷ T) = omega (arith, rows T)

falsum_absent : (T : List Entry) → length T ≤ index_of falsum T → falsums T ≡ 0
unfolding index_of same falsums
falsum_absent [] h = refl
falsum_absent (letter l ∷ T) h = falsum_absent T (omega arith)
falsum_absent (falsum ∷ T) h = absurd (omega arith)
falsum_absent (compound c a b ∷ T) h = falsum_absent T (omega arith)

falsum_present : (T : List Entry) → index_of falsum T < length T → 0 < falsums T
unfolding index_of same falsums
falsum_present [] h = absurd (omega arith)
falsum_present (letter l ∷ T) h = falsum_present T (omega arith)
falsum_present (falsum ∷ T) h = omega arith
falsum_present (compound c a b ∷ T) h = falsum_present T (omega arith)

-- ⊥ stands at most once.
pub once_tail : (x : Entry) (T : List Entry) → Once (x ∷ T) → Once T
unfolding index_of
once_tail x T o i h =
    by_cond (λ (n : ℕ). n ≡ suc i → index_of (get_or T i falsum) T ≡ i) (same x (get_or T i falsum)) 0 (suc (index_of (get_or T i falsum) T))
    (λ t e. absurd (omega arith)) (λ t e. omega arith) (o (suc i) (omega arith))

one_falsum : (T : List Entry) → Once T → falsums T ≤ 1
unfolding falsums index_of same
one_falsum [] o = omega arith
one_falsum (letter l ∷ T) o = one_falsum T (once_tail (letter l) T o)
one_falsum (compound c a b ∷ T) o = one_falsum T (once_tail (compound c a b) T o)
one_falsum (falsum ∷ T) o = elim (dec_lt (index_of falsum T) (length T)) [
  | yes there ↦
      let first : 0 ≡ suc (index_of falsum T) = ap (λ (x : Entry). index_of x (falsum ∷ T)) (sym (found T falsum there)) ∙ o (suc (index_of falsum T)) (omega arith) in
      absurd (omega arith)
  | no absent ↦ omega (arith, falsum_absent T (omega arith))
]

pub names_with_falsum : (T : List Entry) → Once T → index_of falsum T < length T → length T - 1 ≡ named T
names_with_falsum T o h = omega (arith, rows T, one_falsum T o, falsum_present T h)

pub names_without : (T : List Entry) → length T ≤ index_of falsum T → length T ≡ named T
names_without T h = omega (arith, rows T, falsum_absent T h)

-- ---- height

connected_height : (c : Connective) (p q : Formula) (n : ℕ) → height p < n → height q < n → height (connected c p q) ≤ n
unfolding height connected
connected_height And p q n h k = let m : max (height p) (height q) ≤ n - 1 = max-le (omega arith) (omega arith) in omega arith
connected_height Or p q n h k = let m : max (height p) (height q) ≤ n - 1 = max-le (omega arith) (omega arith) in omega arith
connected_height Implies p q n h k = let m : max (height p) (height q) ≤ n - 1 = max-le (omega arith) (omega arith) in omega arith

pub taller : (c : Connective) (p q : Formula) → (height p < height (connected c p q)) × (height q < height (connected c p q))
unfolding height connected
taller And p q = (omega (arith, le-max_left (height p) (height q)), omega (arith, le-max_right (height p) (height q)))
taller Or p q = (omega (arith, le-max_left (height p) (height q)), omega (arith, le-max_right (height p) (height q)))
taller Implies p q = (omega (arith, le-max_left (height p) (height q)), omega (arith, le-max_right (height p) (height q)))

module _ (T : List Entry) (ordered : WellOrdered T) where
  abbrev F : List Formula
  F = formulas_after [] T

  abbrev Low : ℕ → Type 0
  Low n = (i : ℕ) → i < n → i < length T → height (formula_at T i) ≤ i

  low_entry : (n : ℕ) → n < length T → Low n → (x : Entry) → Earlier n x → height (entry_formula F x) ≤ n
  unfolding entry_formula height formula_at
  low_entry n s ih (letter l) u = omega arith
  low_entry n s ih falsum u = omega arith
  low_entry n s ih (compound c a b) u =
      connected_height c _ _ n (omega (arith, ih a u.0 (omega (arith, u.0)), u.0)) (omega (arith, ih b u.1 (omega (arith, u.1)), u.1))

  -- A part of height h has at least h rows before its own.
  low : (n : ℕ) → Low n
  low zero i l h = absurd (omega arith)
  low (suc n) i l h = elim (dec_lt i n) [
    | yes below ↦ low n i below h
    | no above ↦ let last : i ≡ n = omega arith in rw (row_formula T ordered i h) (low_entry i h (λ j k m. low n j (omega arith) m) (get_or T i falsum) (ordered i h))
  ]

-- ---- refusal 4

pub room_names : (f : Formula) → room < length (nodes f).table → TooLarge f
room_names f h = omega (arith, rows (nodes f).table, one_falsum (nodes f).table (table_once f))

pub exceeds_large : (f : Formula) → Exceeds [] 0 f → TooLarge f
unfolding nodes
exceeds_large f (by_rows h) = room_names f h
exceeds_large f (by_height h) =
    let root = root_inside f in
    let tall = low (nodes f).table (table_ordered f) (suc (nodes f).root) (nodes f).root (omega arith) root in
    room_names f (omega (arith, ap height (table_stands f)))
