-- The additions of a table are in range over as many atoms as it has letters and names, or more.
use mathlib.Core.Bool.{false}
use mathlib.Core.List.{List, [], ◌∷◌, ◌++◌}
use mathlib.Core.Logic.{inl, inr}
use mathlib.Core.Path.{◌≡◌}
use Prim.Native.Nat.{ℕ, ◌^◌, ◌≤◌, ◌<◌}
use native.Mathlib.Omega.{arith}
use lib.Bits.{or_lt}
use lib.Dec.{T, eqb}
use lib.ListN.{get_or}
use lib.Pow.{pow_pos}
use borrow.Author.Tests.{eqb-false}
use Rattle.atoms.proofs.Truth.{by_cond}
use Rattle.ipl.specs.Lists.{any, All}
use Rattle.ipl.specs.Clause.{bot, one}
use Rattle.ipl.specs.Book.{add_flat, add_implication}
use Rattle.ipl.proofs.Lists.{All_append}
use Rattle.ipl.proofs.Range.{AtomOrBot, one_below, flat_in_range_lem, implication_in_range_lem}
use Rattle.syntax.specs.Nodes.{Connective, And, Or, Implies, Entry, letter, falsum, compound, named}
use Rattle.clausify.specs.Naming.{atoms_of, atom_at, set_of, clause, part_calls, calls}
use Rattle.clausify.proofs.Additions.{AddsInRange}
use Rattle.clausify.proofs.Compounds.{calls_of}
use Rattle.clausify.specs.Writing.{entry_calls}
use Rattle.clausify.proofs.Atoms.{atom_below}

module _ (n : ℕ) where
  set_below : (l : List ℕ) → All (AtomOrBot n) l → set_of l < 2 ^ n
  unfolding set_of
  set_below [] h = pow_pos n
  set_below (x ∷ l) h = or_lt n (one x) (set_of l) (one_below n x h.0) (set_below l h.1)

  clause_in_range : (left right : List ℕ) → All (AtomOrBot n) left → All (AtomOrBot n) right → All (AddsInRange n) (clause left right)
  unfolding clause
  clause_in_range left right h k =
      by_cond (All (AddsInRange n)) (any (eqb bot) left) [] (add_flat (record { left = set_of left; right = set_of right }) ∷ []) (λ e. tt)
      (λ e. (flat_in_range_lem n (record { left = set_of left; right = set_of right }) (record { left = set_below left h; right = set_below right k }), tt))

  part_in_range : (c : Connective) (x y z : ℕ) → AtomOrBot n x → AtomOrBot n y → AtomOrBot n z → All (AddsInRange n) (part_calls c x y z)
  unfolding part_calls
  part_in_range And x y z hx hy hz =
      All_append (AddsInRange n) (clause (x ∷ []) (y ∷ []) ++ clause (x ∷ []) (z ∷ [])) (clause (y ∷ z ∷ []) (x ∷ []))
      (All_append (AddsInRange n) (clause (x ∷ []) (y ∷ [])) (clause (x ∷ []) (z ∷ []))
      (clause_in_range (x ∷ []) (y ∷ []) (hx, tt) (hy, tt)) (clause_in_range (x ∷ []) (z ∷ []) (hx, tt) (hz, tt)))
      (clause_in_range (y ∷ z ∷ []) (x ∷ []) (hy, (hz, tt)) (hx, tt))
  part_in_range Or x y z hx hy hz =
      All_append (AddsInRange n) (clause (x ∷ []) (y ∷ z ∷ []) ++ clause (y ∷ []) (x ∷ [])) (clause (z ∷ []) (x ∷ []))
      (All_append (AddsInRange n) (clause (x ∷ []) (y ∷ z ∷ [])) (clause (y ∷ []) (x ∷ []))
      (clause_in_range (x ∷ []) (y ∷ z ∷ []) (hx, tt) (hy, (hz, tt))) (clause_in_range (y ∷ []) (x ∷ []) (hy, tt) (hx, tt)))
      (clause_in_range (z ∷ []) (x ∷ []) (hz, tt) (hx, tt))
  part_in_range Implies x y z hx hy hz =
      by_cond (All (AddsInRange n)) (eqb y bot) _ _ (λ e. clause_in_range [] (x ∷ []) tt (hx, tt))
      (λ e. All_append (AddsInRange n) (clause (x ∷ y ∷ []) (z ∷ [])) (add_implication (record { a = y; b = z; c = x }) ∷ [])
      (clause_in_range (x ∷ y ∷ []) (z ∷ []) (hx, (hy, tt)) (hz, tt))
      (implication_in_range_lem n n (omega arith) (record { a = y; b = z; c = x }) (record { a = atom e hy; b = hz; c = hx }), tt))
    where
      atom : eqb y bot ≡ false → AtomOrBot n y → y < n
      atom e (inl h) = h
      atom e (inr q) = absurd (eqb-false y bot e q)

pub calls_in_range : (T : List Entry) (n : ℕ) → named T ≤ n → All (AddsInRange n) (calls T)
calls_in_range T n few = calls_of (AddsInRange n) T (λ i h. go (atom_at T i) (get_or T i falsum) (atom_below T n i few))
  where
    go : (x : ℕ) (e : Entry) → AtomOrBot n x → All (AddsInRange n) (entry_calls (atoms_of T) x e)
    go x (letter l) h = tt
    go x falsum h = tt
    go x (compound c a b) h = part_in_range n c x (atom_at T a) (atom_at T b) h (atom_below T n a few) (atom_below T n b few)
