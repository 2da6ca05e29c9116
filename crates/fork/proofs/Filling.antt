-- Rows of values, written one after the other, a column at a time.
use mathlib.Core.Bool.{Bool, true, false}
use mathlib.Core.List.{List}
use mathlib.Core.Path.{◌≡◌, refl, sym, ap₂, ◌∙◌, subst}
use Prim.Native.Nat.{ℕ, ◌+◌, ◌-◌, ◌/◌, ◌^◌, ◌≤◌, ◌<◌}
use native.Mathlib.Decide.{dec_lt}
use native.Mathlib.Nat.{mod-lt}
use native.Mathlib.Omega.{arith}
use lib.Dec.{eqb}
use lib.ListN.{length, get_or, set, length-set}
use lib.Seq.{get_or-set_same, get_or-set_other}
use borrow.Author.Tests.{eqb-true, eqb-false}
use Rattle.syntax.specs.Nodes.{Connective, And, Or, Implies, Entry, letter, falsum, compound, Earlier}
use Rattle.syntax.specs.Parts.{room, entry_of}
use Rattle.syntax.specs.declared.Connective as declared
use Rattle.syntax.specs.declared.Part.{Part}
use Rattle.syntax.specs.declared.Part.TheVariants.{Compound}
use Rattle.fork.specs.Fork.{whole, set_count}
use Rattle.fork.specs.Cells.{connected_sets, cells, cell_at, set_at, entry_value, Cells, Readable, Written}
use Rattle.fork.proofs.Operations.{meet_set, join_set, implication_set}

set_at_set : (n place : ℕ) → set_at n place ≤ whole
unfolding set_at
set_at_set n place = omega (arith, mod-lt (n / set_count ^ (2 - place)) {m = set_count} (omega arith))

connected_set : (c : Connective) (a b : ℕ) → a ≤ whole → b ≤ whole → connected_sets c a b ≤ whole
connected_set And a b h k = meet_set a b h k
connected_set Or a b h k = join_set a b h k
connected_set Implies a b h k = implication_set a b h k

entry_set : (C : List ℕ) → Cells C → (j n place : ℕ) (e : Entry) → entry_value C j n place e ≤ whole
entry_set C g j n place (letter l) = set_at_set n place
entry_set C g j n place falsum = omega arith
entry_set C g j n place (compound c a b) = connected_set c _ _ (g.sets (cells a + j)) (g.sets (cells b + j))

-- A cell of an earlier row.
cell_earlier : (i a j : ℕ) → a < i → j < set_count → cells a + j < cells i
cell_earlier i a j h l = omega arith

pub cell_inside : (i j : ℕ) → i < room → j < set_count → cells i + j < cells room
cell_inside i j h l = omega arith

-- The cells of a compound's parts.
module _ (C : List ℕ) (i : ℕ) (p : Part) (j : ℕ) (r : Readable C i (entry_of p) j) (c : declared.Connective) (a b : ℕ) (e : p ≡ Compound c a b) where
  parts_earlier : (a < i) × (b < i)
  parts_earlier = subst (λ (p : Part). Earlier i (entry_of p)) e r.earlier

  pub left_cell : cells a + j < length C
  left_cell = omega (arith, r.good.sized, r.inside, r.column, parts_earlier.0)

  pub right_cell : cells b + j < length C
  right_cell = omega (arith, r.good.sized, r.inside, r.column, parts_earlier.1)

-- The first j cells of row i are written.
pub record Begun (C : List ℕ) (i : ℕ) (e : Entry) (n place : ℕ) (D : List ℕ) (j : ℕ) : Type 0 where
  pub column : j ≤ set_count
  pub good : Cells D
  pub row : (m : ℕ) → m < j → cell_at D i m ≡ entry_value C m (n + m) place e
  pub kept : (k : ℕ) → k < cells i → get_or D k 0 ≡ get_or C k 0

pub begun_none : (C : List ℕ) (i : ℕ) (e : Entry) (n place : ℕ) → Cells C → Begun C i e n place C 0
begun_none C i e n place g = record { column = omega arith; good = g; row = λ m h. absurd (omega arith); kept = λ k h. refl }

module _ (C : List ℕ) (i : ℕ) (e : Entry) (n place : ℕ) (inside : i < room) (earlier : Earlier i e) (D : List ℕ) (j : ℕ) (b : Begun C i e n place D j) where
  pub begun_readable : j < set_count → Readable D i e j
  begun_readable h = record { good = b.good; inside = inside; earlier = earlier; column = h }

  module _ (h : j < set_count) (x : ℕ) (is : x ≡ entry_value D j (n + j) place e) where
    abbrev E : List ℕ
    E = set D (cells i + j) x

    same_entry : (e : Entry) → Earlier i e → entry_value D j (n + j) place e ≡ entry_value C j (n + j) place e
    same_entry (letter l) q = refl
    same_entry falsum q = refl
    same_entry (compound c a d) q =
        ap₂ (connected_sets c) (b.kept (cells a + j) (cell_earlier i a j q.0 h)) (b.kept (cells d + j) (cell_earlier i d j q.1 h))

    other : (k : ℕ) → (k ≡ cells i + j → ⊥) → get_or E k 0 ≡ get_or D k 0
    other k n = get_or-set_other D (cells i + j) k x 0 n

    here : cell_at E i j ≡ x
    here = get_or-set_same D (cells i + j) x 0 (omega (arith, b.good.sized, cell_inside i j inside h))

    cell_set : (k : ℕ) → get_or E k 0 ≤ whole
    cell_set k = go (eqb k (cells i + j)) refl
      where
        go : (t : Bool) → eqb k (cells i + j) ≡ t → get_or E k 0 ≤ whole
        go true d = rw (eqb-true k (cells i + j) d, here, is) (entry_set D b.good j (n + j) place e)
        go false d = rw (other k (eqb-false k (cells i + j) d)) (b.good.sets k)

    pub begun_more : Begun C i e n place E (j + 1)
    begun_more = record {
      column = omega arith;
      good = record { sized = length-set D (cells i + j) x ∙ b.good.sized; sets = cell_set };
      row = λ m l. elim (dec_lt m j) [
        | yes k ↦ other (cells i + m) (λ d. omega arith) ∙ b.row m k
        | no k ↦ let last : m ≡ j = omega arith in
            subst (λ (m : ℕ). cell_at E i m ≡ entry_value C m (n + m) place e) (sym last) (here ∙ is ∙ same_entry e earlier)
      ];
      kept = λ k l. other k (λ d. omega arith) ∙ b.kept k l;
    }

  pub begun_all : set_count ≤ j → Written C i e n place D
  begun_all h = record { good = b.good; row = λ m l. b.row m (omega arith); kept = b.kept }
