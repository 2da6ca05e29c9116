-- The calls of a table are those of its compounds, each with its own atom and those of its parts.
use mathlib.Core.List.{List, [], ◌∷◌}
use Prim.Native.Nat.{ℕ, zero, suc, ◌<◌}
use native.Mathlib.Omega.{arith}
use lib.ListN.{length, get_or}
use Rattle.ipl.specs.Lists.{All}
use Rattle.ipl.specs.Clause.{bot}
use Rattle.ipl.specs.Book.{Addition}
use Rattle.ipl.proofs.Lists.{All_append, All_left, All_right}
use Rattle.syntax.specs.Nodes.{Entry, letter, falsum, compound}
use Rattle.syntax.specs.Letters.{letter_count}
use Rattle.clausify.specs.Naming.{atoms_from, atoms_of, atom_at, part_calls, calls_from, calls}
use Rattle.clausify.specs.Writing.{entry_calls}

module _ (P : Addition → Type 0) (A : List ℕ) where
  from_at : (T : List Entry) (l x : ℕ) → All P (calls_from A x T) → (i : ℕ) → i < length T → All P (entry_calls A (get_or (atoms_from l x T) i bot) (get_or T i falsum))
  unfolding calls_from atoms_from
  from_at [] l x h i k = absurd (omega arith)
  from_at (letter s ∷ T) l x h zero k = tt
  from_at (letter s ∷ T) l x h (suc i) k = from_at T (suc l) x h i (omega arith)
  from_at (falsum ∷ T) l x h zero k = tt
  from_at (falsum ∷ T) l x h (suc i) k = from_at T l x h i (omega arith)
  from_at (compound c a b ∷ T) l x h zero k = All_left P (part_calls c x (get_or A a bot) (get_or A b bot)) (calls_from A (suc x) T) h
  from_at (compound c a b ∷ T) l x h (suc i) k = from_at T l (suc x) (All_right P (part_calls c x (get_or A a bot) (get_or A b bot)) (calls_from A (suc x) T) h) i (omega arith)

  from_of : (T : List Entry) (l x : ℕ) → ((i : ℕ) → i < length T → All P (entry_calls A (get_or (atoms_from l x T) i bot) (get_or T i falsum))) → All P (calls_from A x T)
  unfolding calls_from atoms_from
  from_of [] l x h = tt
  from_of (letter s ∷ T) l x h = from_of T (suc l) x (λ i k. h (suc i) (omega arith))
  from_of (falsum ∷ T) l x h = from_of T l x (λ i k. h (suc i) (omega arith))
  from_of (compound c a b ∷ T) l x h =
      All_append P (part_calls c x (get_or A a bot) (get_or A b bot)) (calls_from A (suc x) T) (h 0 (omega arith)) (from_of T l (suc x) (λ i k. h (suc i) (omega arith)))

module _ (P : Addition → Type 0) (T : List Entry) where
  pub calls_at : All P (calls T) → (i : ℕ) → i < length T → All P (entry_calls (atoms_of T) (atom_at T i) (get_or T i falsum))
  unfolding calls atoms_of
  calls_at h = from_at P (atoms_of T) T 0 (letter_count T) h

  pub calls_of : ((i : ℕ) → i < length T → All P (entry_calls (atoms_of T) (atom_at T i) (get_or T i falsum))) → All P (calls T)
  unfolding calls atoms_of
  calls_of h = from_of P (atoms_of T) T 0 (letter_count T) h
