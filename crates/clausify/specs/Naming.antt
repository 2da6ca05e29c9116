-- The naming of parts (document 01: "Each part of a formula is a letter, ⊥ or a connective with its two parts ..").
use Rattle.std.specs.Prelude.{cond, List, [], ◌∷◌, ◌++◌, map, ℕ, suc, max, eqb, get_or}
use Rattle.atoms.specs.Sets.{union}
use Rattle.ipl.specs.Lists.{any}
use Rattle.ipl.specs.Clause.{bot, one}
use Rattle.ipl.specs.Book.{Book, Addition, add_flat, add_implication, add, opened, after}
use Rattle.ipl.specs.Formula.{Formula}
use Rattle.syntax.specs.Letters.{letter_count}
use Rattle.syntax.specs.Nodes.{Connective, And, Or, Implies, Entry, letter, falsum, compound, nodes, named}

-- "Letters get atoms in order of first standing; then each connective part gets a name x, inner before outer, left before right":
-- the atoms of a table's parts, where the next letter gets l and the next name is x.
unfoldable pub atoms_from : ℕ → ℕ → List Entry → List ℕ
atoms_from l x [] = []
atoms_from l x (letter k ∷ T) = l ∷ atoms_from (suc l) x T
atoms_from l x (falsum ∷ T) = bot ∷ atoms_from l x T
atoms_from l x (compound c a b ∷ T) = x ∷ atoms_from l (suc x) T

unfoldable pub atoms_of : List Entry → List ℕ
atoms_of T = atoms_from 0 (letter_count T) T

-- The atom of the part with this index; ⊥ past the last.
abbrev pub atom_at : List Entry → ℕ → ℕ
atom_at T i = get_or (atoms_of T) i bot

-- A set of atoms: "⊥ on a right is dropped".
unfoldable pub set_of : List ℕ → ℕ
set_of [] = 0
set_of (x ∷ l) = union (one x) (set_of l)

-- The addition of a flat clause: "a clause with ⊥ on its left is not held".
unfoldable pub clause : List ℕ → List ℕ → List Addition
clause left right = cond (any (eqb bot) left) [] (add_flat (record { left = set_of left; right = set_of right }) ∷ [])

-- The clauses of the name x for the parts y and z.
unfoldable pub part_calls : Connective → ℕ → ℕ → ℕ → List Addition
-- "y & z: {x}→{y}, {x}→{z}, {y,z}→{x}"
part_calls And x y z = clause (x ∷ []) (y ∷ []) ++ clause (x ∷ []) (z ∷ []) ++ clause (y ∷ z ∷ []) (x ∷ [])
-- "y | z: {x}→{y,z}, {y}→{x}, {z}→{x}"
part_calls Or x y z = clause (x ∷ []) (y ∷ z ∷ []) ++ clause (y ∷ []) (x ∷ []) ++ clause (z ∷ []) (x ∷ [])
-- "y > z: {x,y}→{z}, then the implication (y → z) → x with its closing clause; if y is ⊥, only {}→{x}"
part_calls Implies x y z =
    cond (eqb y bot) (clause [] (x ∷ [])) (clause (x ∷ y ∷ []) (z ∷ []) ++ (add_implication (record { a = y; b = z; c = x }) ∷ []))

-- "Clauses, name after name in rising number": those of a table's parts, where A has the atoms of all parts and the next name is x.
unfoldable pub calls_from : List ℕ → ℕ → List Entry → List Addition
calls_from A x [] = []
calls_from A x (letter l ∷ T) = calls_from A x T
calls_from A x (falsum ∷ T) = calls_from A x T
calls_from A x (compound c a b ∷ T) = part_calls c x (get_or A a bot) (get_or A b bot) ++ calls_from A (suc x) T

unfoldable pub calls : List Entry → List Addition
calls T = calls_from (atoms_of T) (letter_count T) T

-- "With none at all n is 1."
unfoldable pub atom_count : List Entry → ℕ
atom_count T = max 1 (named T)

-- "A text's session holds what an opening with its n and the additions of its clauses, in the order given below, would bring."
unfoldable pub text_book : Formula → Book
text_book f = after (opened (atom_count (nodes f).table)) (map add (calls (nodes f).table))

-- "The goal is the atom of the whole."
unfoldable pub goal_of : Formula → ℕ
goal_of f = atom_at (nodes f).table (nodes f).root
