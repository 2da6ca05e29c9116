-- Flat clauses and implication clauses, and their truth at a set of atoms (document 01: Atoms, clauses, models).
use Rattle.std.specs.Prelude.{Bool, not, cond, ◌&&◌, ◌||◌, List, [], ◌∷◌, ℕ, eqb}
use Rattle.atoms.specs.Sets.{has, single, remove, within, meets}
use Rattle.ipl.specs.Lists.{any}

-- "False (⊥) is atom number 255."
abbrev pub bot : ℕ
bot = 255

-- The set of the atom x; ⊥ is in no set, so that of ⊥ is empty.
unfoldable pub one : ℕ → ℕ
one x = cond (eqb x bot) 0 (single x)

-- "A flat clause is two sets, left and right."
pub record Flat : Type 0 where
  pub left : ℕ
  pub right : ℕ

-- "An implication clause is (a → b) → c."
pub record Implication : Type 0 where
  pub a : ℕ
  pub b : ℕ
  pub c : ℕ

-- At the set m: "if all of left hold, one of right holds".
unfoldable pub satisfies : ℕ → Flat → Bool
satisfies m f = not (within f.left m) || meets f.right m

-- "The closing flat clause {b} → {c} .. with c = ⊥ its right is empty."
unfoldable pub closing : Implication → Flat
closing i = record { left = one i.b; right = one i.c }

-- What adding the implication adds to the flat clauses: "with b = ⊥ no closing clause is held".
unfoldable pub closings : Implication → List Flat
closings i = cond (eqb i.b bot) [] (closing i ∷ [])

unfoldable pub same_flat : Flat → Flat → Bool
same_flat f g = eqb f.left g.left && eqb f.right g.right

-- The closing clause of i, where it has one, is among the flat clauses F.
unfoldable pub closed : List Flat → Implication → Bool
closed F i = eqb i.b bot || any (same_flat (closing i)) F

-- The world u "strictly includes M, has a and lacks b".
unfoldable pub beyond : Implication → ℕ → ℕ → Bool
beyond i M u = within M u && not (eqb M u) && has u i.a && not (has u i.b)

-- "World M realizes (a → b) → c within worlds W if M has a, b or c, or some world of W" is beyond it.
unfoldable pub realizes : List ℕ → ℕ → Implication → Bool
realizes W M i = has M i.a || has M i.b || has M i.c || any (beyond i M) W

-- The clause of a learned step: "A without a on the left and c on the right (empty for ⊥)".
unfoldable pub learned : Implication → ℕ → Flat
learned i A = record { left = remove A i.a; right = one i.c }
