-- Laws of the passes over a formula's table: each goes on from the entries that are left.
use mathlib.Core.List.{List, [], ◌∷◌, ◌++◌}
use mathlib.Core.Path.{◌≡◌, refl, sym, ap, ap₂, ◌∙◌, subst}
use Prim.Native.Nat.{ℕ, suc, ◌+◌, ◌≤◌, ◌<◌}
use native.Mathlib.Nat.{add-zero}
use native.Mathlib.Numerals.{add-one}
use native.Mathlib.Omega.{arith}
use lib.ListN.{get_or, drop}
use lib.Seq.{drop-cons}
use Rattle.ipl.specs.Clause.{bot}
use Rattle.ipl.specs.Book.{Addition}
use Rattle.syntax.specs.Nodes.{Entry, letter, falsum, compound, named}
use Rattle.syntax.specs.Letters.{letter_count, letters_in}
use Rattle.syntax.specs.Parts.{entry_of, held, Sound}
use Rattle.syntax.specs.declared.Part.{Part}
use Rattle.syntax.specs.declared.Part.TheVariants.{Letter, Falsum, Compound}
use Rattle.syntax.specs.declared.Connective.{Connective}
use Rattle.syntax.specs.declared.Parts.{Parts}
use Rattle.syntax.proofs.Held.{held_length}
use Rattle.syntax.proofs.LetterCount.{entry_at, none_left, entry_here}
use Rattle.clausify.specs.Naming.{atoms_from, atoms_of, atom_at, part_calls, calls_from, calls}
use Rattle.clausify.specs.Writing.{names_in, entry_calls, Passed}
use Rattle.clausify.specs.declared.naming.Next.{Next}
use Rattle.clausify.proofs.Atoms.{atoms_length}

-- ---- one entry
named_first : (e : Entry) (T : List Entry) → named (e ∷ T) ≡ letters_in e + names_in e + named T
unfolding named letters_in names_in
named_first (letter l) T = omega arith
named_first falsum T = omega arith
named_first (compound c a b) T = omega arith

module _ (n : Next) (p : Part) where
  pub passed_letter : (l : ℕ) → p ≡ Letter l → Passed n (entry_of p) n.letter (record { letter = n.letter + 1; name = n.name })
  unfolding atoms_from letters_in names_in
  passed_letter l e =
      subst (λ (p : Part). Passed n (entry_of p) n.letter (record { letter = n.letter + 1; name = n.name })) (sym e)
      (record { on = λ T. rw (add-one n.letter) refl; letter_more = refl; name_more = sym (add-zero n.name) })

  pub passed_falsum : p ≡ Falsum → Passed n (entry_of p) bot n
  unfolding atoms_from letters_in names_in
  passed_falsum e =
      subst (λ (p : Part). Passed n (entry_of p) bot n) (sym e)
      (record { on = λ T. refl; letter_more = sym (add-zero n.letter); name_more = sym (add-zero n.name) })

  pub passed_compound : (c : Connective) (y z : ℕ) → p ≡ Compound c y z → Passed n (entry_of p) n.name (record { letter = n.letter; name = n.name + 1 })
  unfolding atoms_from letters_in names_in
  passed_compound c y z e =
      subst (λ (p : Part). Passed n (entry_of p) n.name (record { letter = n.letter; name = n.name + 1 })) (sym e)
      (record { on = λ T. rw (add-one n.name) refl; letter_more = sym (add-zero n.letter); name_more = refl })

-- ---- the entries left

-- The calls of entries with the atoms X, one after the other.
calls_with : List ℕ → List ℕ → List Entry → List Addition
calls_with A [] T = []
calls_with A (x ∷ X) [] = []
calls_with A (x ∷ X) (e ∷ T) = entry_calls A x e ++ calls_with A X T

calls_with_lem : (A : List ℕ) (T : List Entry) (l x : ℕ) → calls_with A (atoms_from l x T) T ≡ calls_from A x T
unfolding calls_with calls_from atoms_from
calls_with_lem A [] l x = refl
calls_with_lem A (letter k ∷ T) l x = calls_with_lem A T (suc l) x
calls_with_lem A (falsum ∷ T) l x = calls_with_lem A T l x
calls_with_lem A (compound c a b ∷ T) l x = ap (λ (cs : List Addition). part_calls c x (get_or A a bot) (get_or A b bot) ++ cs) (calls_with_lem A T l (suc x))

calls_with_none : (A X : List ℕ) → calls_with A X [] ≡ []
unfolding calls_with
calls_with_none A [] = refl
calls_with_none A (x ∷ X) = refl

-- Those of the entries from i on.
pub calls_left : Parts → ℕ → List Addition
calls_left p i = calls_with (atoms_of (held p)) (drop i (atoms_of (held p))) (drop i (held p))

pub calls_start : (p : Parts) → calls_left p 0 ≡ calls (held p)
unfolding calls_left calls atoms_of
calls_start p = calls_with_lem (atoms_of (held p)) (held p) 0 (letter_count (held p))

module _ (p : Parts) (s : Sound p) where
  pub calls_end : (i : ℕ) → p.count ≤ i → calls_left p i ≡ []
  unfolding calls_left
  calls_end i h = rw (none_left p s i h) (calls_with_none (atoms_of (held p)) (drop i (atoms_of (held p))))

  module _ (i : ℕ) (d : Part) (h : i < p.count) where
    atom_here : drop i (atoms_of (held p)) ≡ atom_at (held p) i ∷ drop (i + 1) (atoms_of (held p))
    unfolding atoms_of
    atom_here = rw (add-one i) (drop-cons (atoms_of (held p)) i bot (omega (arith, h, held_length p s, atoms_length (held p) 0 (letter_count (held p)))))

    pub named_left : named (drop i (held p)) ≡ letters_in (entry_at p i d) + names_in (entry_at p i d) + named (drop (i + 1) (held p))
    named_left = ap named (entry_here p s i d h) ∙ named_first (entry_at p i d) (drop (i + 1) (held p))

    pub calls_left_next : calls_left p i ≡ entry_calls (atoms_of (held p)) (atom_at (held p) i) (entry_at p i d) ++ calls_left p (i + 1)
    unfolding calls_left calls_with
    calls_left_next = ap₂ (calls_with (atoms_of (held p))) atom_here (entry_here p s i d h)

    pub atoms_left : (n r : Next) (atom : ℕ) → Passed n (entry_at p i d) atom r
        → atoms_from n.letter n.name (drop i (held p)) ≡ atom ∷ atoms_from r.letter r.name (drop (i + 1) (held p))
    atoms_left n r atom g = ap (atoms_from n.letter n.name) (entry_here p s i d h) ∙ g.on (drop (i + 1) (held p))
