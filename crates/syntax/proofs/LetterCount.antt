-- The letters of a table, counted row by row.
use mathlib.Core.List.{List, [], ◌∷◌, map}
use mathlib.Core.Path.{◌≡◌, ap, ◌∙◌}
use Prim.Native.Nat.{ℕ, suc, ◌+◌, ◌≤◌, ◌<◌}
use native.Mathlib.Numerals.{add-one}
use native.Mathlib.Omega.{arith}
use lib.ListN.{length, get_or, drop, length-map, get_or-map, drop_of_length-le}
use lib.Seq.{drop-cons}
use Rattle.syntax.specs.Nodes.{Entry, letter, falsum, compound}
use Rattle.syntax.specs.Letters.{letters_of, letter_count, letters_in}
use Rattle.syntax.specs.Parts.{entry_of, held, Sound}
use Rattle.syntax.specs.declared.Part.{Part}
use Rattle.syntax.specs.declared.Parts.{Parts}
use Rattle.syntax.proofs.Held.{held_length, held_at}

pub letters_first : (e : Entry) (T : List Entry) → letter_count (e ∷ T) ≡ letters_in e + letter_count T
unfolding letters_of letters_in
letters_first (letter l) T = omega arith
letters_first falsum T = omega arith
letters_first (compound c a b) T = omega arith

letters_within : (T : List Entry) → letter_count T ≤ length T
unfolding letters_of
letters_within [] = omega arith
letters_within (letter k ∷ T) = omega (arith, letters_within T)
letters_within (falsum ∷ T) = omega (arith, letters_within T)
letters_within (compound c a b ∷ T) = omega (arith, letters_within T)

-- The entry at i.
abbrev pub entry_at : Parts → ℕ → Part → Entry
entry_at p i d = entry_of (get_or p.nodes i d)

module _ (p : Parts) (s : Sound p) where
  pub none_left : (i : ℕ) → p.count ≤ i → drop i (held p) ≡ []
  none_left i h = drop_of_length-le (held p) {i = i} (rw (held_length p s) h)

  module _ (i : ℕ) (d : Part) (h : i < p.count) where
    pub entry_here : drop i (held p) ≡ entry_at p i d ∷ drop (i + 1) (held p)
    entry_here =
        drop-cons (held p) i (entry_of d) (rw (held_length p s) h)
        ∙ rw (add-one i) (ap (λ (e : Entry). e ∷ drop (suc i) (held p)) (held_at p s i d h))

    pub letters_left : letter_count (drop i (held p)) ≡ letters_in (entry_at p i d) + letter_count (drop (i + 1) (held p))
    letters_left = ap letter_count entry_here ∙ letters_first (entry_at p i d) (drop (i + 1) (held p))

-- The letters of the first i rows.
pub record Counted (R : List Part) (n i : ℕ) : Type 0 where
  pub inside : i ≤ length R
  pub letters : n + letter_count (drop i (map entry_of R)) ≡ letter_count (map entry_of R)

module _ (R : List Part) where
  pub counted_none : Counted R 0 0
  counted_none = record { inside = omega arith; letters = omega arith }

  module _ (n i : ℕ) (c : Counted R n i) where
    module _ (d : Part) (h : i < length R) where
      first_left : drop i (map entry_of R) ≡ entry_of (get_or R i d) ∷ drop (i + 1) (map entry_of R)
      first_left =
          drop-cons (map entry_of R) i (entry_of d) (omega (arith, length-map R entry_of))
          ∙ rw (add-one i) (ap (λ (e : Entry). e ∷ drop (suc i) (map entry_of R)) (get_or-map entry_of R i d))

      counted_left : n + (letters_in (entry_of (get_or R i d)) + letter_count (drop (i + 1) (map entry_of R))) ≡ letter_count (map entry_of R)
      counted_left = omega (arith, c.letters, ap letter_count first_left, letters_first (entry_of (get_or R i d)) (drop (i + 1) (map entry_of R)))

      pub counted_byte : (r : ℕ) → r ≡ letters_in (entry_of (get_or R i d)) → length R < 256 → n + r < 256
      counted_byte r e few = omega (arith, counted_left, letters_within (map entry_of R), length-map R entry_of)

      pub counted_more : (r : ℕ) → r ≡ letters_in (entry_of (get_or R i d)) → Counted R (n + r) (i + 1)
      counted_more r e = record { inside = omega arith; letters = omega (arith, counted_left) }

    pub counted_all : length R ≤ i → n ≡ letter_count (map entry_of R)
    unfolding letters_of
    counted_all h = omega (arith, c.letters, ap letter_count (drop_of_length-le (map entry_of R) {i = i} (rw (length-map R entry_of) h)))
