-- A table brings at most three flat clauses and one implication for each name.
use mathlib.Core.List.{List, [], ◌∷◌, ◌++◌}
use mathlib.Core.Path.{◌≡◌, ap, ◌∙◌}
use Prim.Native.Nat.{ℕ, suc, ◌+◌, ◌*◌, ◌≤◌}
use native.Mathlib.Omega.{arith}
use lib.Dec.{T, eqb}
use lib.ListN.{length, get_or, length-append}
use Rattle.atoms.proofs.Truth.{by_cond}
use Rattle.ipl.specs.Lists.{any}
use Rattle.ipl.specs.Clause.{bot, Flat, Implication, closing, closings}
use Rattle.ipl.specs.Book.{Addition, add_flat, add_implication}
use Rattle.syntax.specs.Nodes.{Connective, And, Or, Implies, Entry, letter, falsum, compound, named}
use Rattle.clausify.specs.Naming.{set_of, clause, part_calls, calls_from}
use Rattle.clausify.specs.Additions.{flats_by, implications_by}
use Rattle.clausify.specs.Writing.{entry_calls, clauses_of_name}
use Rattle.clausify.proofs.Additions.{flats_by_append, implications_by_append}

pub clause_size : (left right : List ℕ) → (length (flats_by (clause left right)) ≤ 1) × (length (implications_by (clause left right)) ≤ 0)
unfolding clause flats_by implications_by
clause_size left right =
    by_cond (λ (cs : List Addition). (length (flats_by cs) ≤ 1) × (length (implications_by cs) ≤ 0)) (any (eqb bot) left) [] (add_flat (record { left = set_of left; right = set_of right }) ∷ [])
    (λ e. (omega arith, omega arith)) (λ e. (omega arith, omega arith))

size_append : (cs ds : List Addition) → (length (flats_by (cs ++ ds)) ≡ length (flats_by cs) + length (flats_by ds))
    × (length (implications_by (cs ++ ds)) ≡ length (implications_by cs) + length (implications_by ds))
size_append cs ds = (
  ap length (flats_by_append cs ds) ∙ length-append (flats_by cs) (flats_by ds),
  ap length (implications_by_append cs ds) ∙ length-append (implications_by cs) (implications_by ds),
)

three_clauses : (l r l2 r2 l3 r3 : List ℕ) → (length (flats_by (clause l r ++ clause l2 r2 ++ clause l3 r3)) ≤ clauses_of_name)
    × (length (implications_by (clause l r ++ clause l2 r2 ++ clause l3 r3)) ≤ 1)
three_clauses l r l2 r2 l3 r3 =
    let a = clause_size l r in let b = clause_size l2 r2 in let c = clause_size l3 r3 in
    let ab = size_append (clause l r) (clause l2 r2) in let abc = size_append (clause l r ++ clause l2 r2) (clause l3 r3) in
    (omega (arith, a.0, b.0, c.0, ab.0, abc.0), omega (arith, a.1, b.1, c.1, ab.1, abc.1))

closings_size : (i : Implication) → length (closings i) ≤ 1
unfolding closings
closings_size i = by_cond (λ (F : List Flat). length F ≤ 1) (eqb i.b bot) [] (closing i ∷ []) (λ e. omega arith) (λ e. omega arith)

part_size : (c : Connective) (x y z : ℕ) → (length (flats_by (part_calls c x y z)) ≤ clauses_of_name) × (length (implications_by (part_calls c x y z)) ≤ 1)
unfolding part_calls flats_by implications_by
part_size And x y z = three_clauses (x ∷ []) (y ∷ []) (x ∷ []) (z ∷ []) (y ∷ z ∷ []) (x ∷ [])
part_size Or x y z = three_clauses (x ∷ []) (y ∷ z ∷ []) (y ∷ []) (x ∷ []) (z ∷ []) (x ∷ [])
part_size Implies x y z =
    by_cond (λ (cs : List Addition). (length (flats_by cs) ≤ clauses_of_name) × (length (implications_by cs) ≤ 1)) (eqb y bot) _ _
    (λ e. let a = clause_size [] (x ∷ []) in (omega (arith, a.0), omega (arith, a.1)))
    (λ e.
    let i : Implication = record { a = y; b = z; c = x } in
    let a = clause_size (x ∷ y ∷ []) (z ∷ []) in
    let s = size_append (clause (x ∷ y ∷ []) (z ∷ [])) (add_implication i ∷ []) in
    (omega (arith, a.0, s.0, closings_size i, length-append (closings i) []), omega (arith, a.1, s.1)))

pub entry_size : (A : List ℕ) (x : ℕ) (e : Entry) → (length (flats_by (entry_calls A x e)) ≤ clauses_of_name) × (length (implications_by (entry_calls A x e)) ≤ 1)
unfolding flats_by implications_by
entry_size A x (letter l) = (omega arith, omega arith)
entry_size A x falsum = (omega arith, omega arith)
entry_size A x (compound c a b) = part_size c x (get_or A a bot) (get_or A b bot)

-- Of any table, so also of the front of one.
pub calls_size : (T : List Entry) (A : List ℕ) (x : ℕ) → (length (flats_by (calls_from A x T)) ≤ clauses_of_name * named T) × (length (implications_by (calls_from A x T)) ≤ named T)
unfolding calls_from named flats_by implications_by
calls_size [] A x = (omega arith, omega arith)
calls_size (letter l ∷ T) A x = let r = calls_size T A x in (omega (arith, r.0), omega (arith, r.1))
calls_size (falsum ∷ T) A x = calls_size T A x
calls_size (compound c a b ∷ T) A x =
    let r = calls_size T A (suc x) in
    let p = part_size c x (get_or A a bot) (get_or A b bot) in
    let s = size_append (part_calls c x (get_or A a bot) (get_or A b bot)) (calls_from A (suc x) T) in
    (omega (arith, r.0, p.0, s.0), omega (arith, r.1, p.1, s.1))
