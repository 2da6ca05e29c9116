-- The atoms of a table's parts: which numbers they are, and that those of different parts differ.
use mathlib.Core.Bool.{cond}
use mathlib.Core.List.{List, [], ◌∷◌}
use mathlib.Core.Logic.{◌⊎◌, inl, inr}
use mathlib.Core.Path.{◌≡◌, refl, sym, ap, subst}
use Prim.Native.Nat.{ℕ, zero, suc, ◌+◌, ◌≤◌, ◌<◌}
use native.Mathlib.Decide.{dec_lt}
use native.Mathlib.Omega.{arith}
use lib.Dec.{eqb}
use lib.ListN.{length, get_or, get_or-eq_default}
use borrow.Author.Tests.{eq-eqb, ne_eqb}
use Rattle.ipl.specs.Clause.{bot}
use Rattle.ipl.proofs.Range.{AtomOrBot}
use Rattle.syntax.specs.Nodes.{Entry, letter, falsum, compound, named}
use Rattle.syntax.specs.Refusal.{most_names}
use Rattle.syntax.specs.Letters.{letters_of, letter_count}
use Rattle.clausify.specs.Naming.{atoms_from, atoms_of, atom_at}

pub letters_named : (T : List Entry) → letter_count T ≤ named T
unfolding letters_of named
letters_named [] = omega arith
letters_named (letter k ∷ T) = omega (arith, letters_named T)
letters_named (falsum ∷ T) = letters_named T
letters_named (compound c a b ∷ T) = omega (arith, letters_named T)

pub atoms_length : (T : List Entry) (l x : ℕ) → length (atoms_from l x T) ≡ length T
unfolding atoms_from
atoms_length [] l x = refl
atoms_length (letter k ∷ T) l x = ap suc (atoms_length T (suc l) x)
atoms_length (falsum ∷ T) l x = ap suc (atoms_length T l x)
atoms_length (compound c a b ∷ T) l x = ap suc (atoms_length T l (suc x))

-- The atom y of a part: a letter's is from l on and below m, a name from x on and below n.
abbrev pub Between : ℕ → ℕ → ℕ → ℕ → Entry → ℕ → Type 0
Between l m x n (letter k) y = (l ≤ y) × (y < m)
Between l m x n falsum y = y ≡ bot
Between l m x n (compound c a b) y = (x ≤ y) × (y < n)

wider : (l l' m x x' n : ℕ) (e : Entry) (y : ℕ) → l ≤ l' → x ≤ x' → Between l' m x' n e y → Between l m x n e y
wider l l' m x x' n (letter k) y h k' b = (omega (arith, b.0), b.1)
wider l l' m x x' n falsum y h k b = b
wider l l' m x x' n (compound c p q) y h k b = (omega (arith, b.0), b.1)

between : (T : List Entry) (l m x n i : ℕ) → l + letter_count T ≤ m → x + named T ≤ n + letter_count T → i < length T → Between l m x n (get_or T i falsum) (get_or (atoms_from l x T) i bot)
unfolding letters_of named atoms_from
between [] l m x n i h k j = absurd (omega arith)
between (letter s ∷ T) l m x n zero h k j = (omega arith, omega arith)
between (letter s ∷ T) l m x n (suc i) h k j = wider l (suc l) m x x n (get_or T i falsum) _ (omega arith) (omega arith) (between T (suc l) m x n i (omega arith) (omega arith) (omega arith))
between (falsum ∷ T) l m x n zero h k j = refl
between (falsum ∷ T) l m x n (suc i) h k j = between T l m x n i h k (omega arith)
between (compound c a b ∷ T) l m x n zero h k j = (omega arith, omega (arith, letters_named T))
between (compound c a b ∷ T) l m x n (suc i) h k j = wider l l m x (suc x) n (get_or T i falsum) _ (omega arith) (omega arith) (between T l m (suc x) n i h (omega arith) (omega arith))

pub atom_between : (T : List Entry) (i : ℕ) → i < length T → Between 0 (letter_count T) (letter_count T) (named T) (get_or T i falsum) (atom_at T i)
unfolding atoms_of
atom_between T i h = between T 0 (letter_count T) (letter_count T) (named T) i (omega arith) (omega arith) h

-- Over as many atoms as there are letters and names, or more: an atom or ⊥.
pub atom_below : (T : List Entry) (n i : ℕ) → named T ≤ n → AtomOrBot n (atom_at T i)
unfolding atoms_of
atom_below T n i few = elim (dec_lt i (length T)) [
  | yes h ↦ inside (get_or T i falsum) (atom_between T i h)
  | no h ↦ inr (get_or-eq_default (atoms_from 0 (letter_count T) T) bot (omega (arith, atoms_length T 0 (letter_count T))))
]
  where
    inside : (e : Entry) → Between 0 (letter_count T) (letter_count T) (named T) e (get_or (atoms_from 0 (letter_count T) T) i bot) → AtomOrBot n (get_or (atoms_from 0 (letter_count T) T) i bot)
    inside (letter k) b = inl (omega (arith, b.1, letters_named T))
    inside falsum b = inr b
    inside (compound c p q) b = inl (omega (arith, b.1))

-- ⊥ is the atom of ⊥ alone.
pub falsum_bot : (T : List Entry) (i : ℕ) → i < length T → get_or T i falsum ≡ falsum → atom_at T i ≡ bot
falsum_bot T i h e = subst (λ (x : Entry). Between 0 (letter_count T) (letter_count T) (named T) x (atom_at T i)) e (atom_between T i h)

pub bot_falsum : (T : List Entry) (i : ℕ) → named T ≤ most_names → i < length T → atom_at T i ≡ bot → get_or T i falsum ≡ falsum
bot_falsum T i few h e = go (get_or T i falsum) (atom_between T i h)
  where
    go : (x : Entry) → Between 0 (letter_count T) (letter_count T) (named T) x (atom_at T i) → x ≡ falsum
    go (letter k) b = absurd (omega (arith, b.1, letters_named T))
    go falsum b = refl
    go (compound c p q) b = absurd (omega (arith, b.1))

-- ---- a part found by its atom

-- The index of the first part with the atom y.
pub part_with : ℕ → List ℕ → ℕ
part_with y [] = 0
part_with y (x ∷ A) = cond (eqb x y) 0 (suc (part_with y A))

found_first : (y : ℕ) (A : List ℕ) → part_with y (y ∷ A) ≡ 0
unfolding part_with
found_first y A = rw (eq-eqb y y refl)

found_later : (x y i : ℕ) (A : List ℕ) → (x ≡ y → ⊥) → part_with y A ≡ i → part_with y (x ∷ A) ≡ suc i
unfolding part_with
found_later x y i A d e = rw (ne_eqb x y d, e)

-- Neither a later letter nor a later name has an atom that is given already.
apart : (l m x n h : ℕ) (e : Entry) (y : ℕ) → (h < l) ⊎ (m ≤ h) → h < x → Between l m x n e y → (y ≡ bot → ⊥) → h ≡ y → ⊥
apart l m x n h (letter k) y (inl a) u b d q = omega (arith, b.0)
apart l m x n h (letter k) y (inr a) u b d q = omega (arith, b.1)
apart l m x n h falsum y a u b d q = d b
apart l m x n h (compound c p r) y a u b d q = omega (arith, b.0)

found : (T : List Entry) (l x n i : ℕ) → l + letter_count T ≤ x → x + named T ≤ n + letter_count T → i < length T → (get_or (atoms_from l x T) i bot ≡ bot → ⊥)
    → part_with (get_or (atoms_from l x T) i bot) (atoms_from l x T) ≡ i
unfolding letters_of named atoms_from
found [] l x n i h k j d = absurd (omega arith)
found (letter s ∷ T) l x n zero h k j d = found_first l (atoms_from (suc l) x T)
found (letter s ∷ T) l x n (suc i) h k j d =
    found_later l _ i (atoms_from (suc l) x T)
    (apart (suc l) x x n l (get_or T i falsum) _ (inl (omega arith)) (omega arith) (between T (suc l) x x n i (omega arith) (omega arith) (omega arith)) d)
    (found T (suc l) x n i (omega arith) (omega arith) (omega arith) d)
found (falsum ∷ T) l x n zero h k j d = absurd (d refl)
found (falsum ∷ T) l x n (suc i) h k j d = found_later bot _ i (atoms_from l x T) (λ e. d (sym e)) (found T l x n i h k (omega arith) d)
found (compound c a b ∷ T) l x n zero h k j d = found_first x (atoms_from l (suc x) T)
found (compound c a b ∷ T) l x n (suc i) h k j d =
    found_later x _ i (atoms_from l (suc x) T)
    (apart l x (suc x) n x (get_or T i falsum) _ (inr (omega arith)) (omega arith) (between T l x (suc x) n i (omega arith) (omega arith) (omega arith)) d)
    (found T l (suc x) n i (omega arith) (omega arith) (omega arith) d)

pub part_found : (T : List Entry) (i : ℕ) → i < length T → (atom_at T i ≡ bot → ⊥) → part_with (atom_at T i) (atoms_of T) ≡ i
unfolding atoms_of
part_found T i h d = found T 0 (letter_count T) (named T) i (omega arith) (omega arith) h d
