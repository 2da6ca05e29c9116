-- Two operands and what joins them: the whole is named after both, and is too large where one of them is.
use mathlib.Core.List.{List}
use mathlib.Core.Path.{◌≡◌, subst}
use Rattle.std.specs.Prelude.{Option}
use Prim.Native.Nat.{ℕ, ◌+◌, ◌≤◌, ◌<◌}
use native.Mathlib.Omega.{arith}
use lib.ListN.{length}
use Rattle.ipl.specs.Formula.{Formula, iff}
use Rattle.syntax.specs.Nodes.{Connective, And, Implies, Entry, Named, with_formula, connected, WellOrdered, Once}
use Rattle.syntax.specs.Parts.{held}
use Rattle.syntax.specs.Table.{Holds, Names, with_compound, with_equivalence}
use Rattle.syntax.specs.Descent.{height, Exceeds, by_rows, by_height}
use Rattle.syntax.specs.declared.Parts.{Parts}
use Rattle.syntax.proofs.Growth.{formula_grows, connected_named}
use Rattle.syntax.proofs.Sharing.{equivalence_named}
use Rattle.syntax.proofs.Names.{taller}
use Rattle.syntax.proofs.Held.{compound_grows}

-- A formula of two, and the step of the table that names it after both.
pub record Joins (join : Formula → Formula → Formula) (W : ℕ → List Entry → ℕ → Named) : Type 0 where
  pub means : (T : List Entry) → WellOrdered T → Once T → (g h : Formula)
      → with_formula T (join g h) ≡ W (with_formula T g).root (with_formula (with_formula T g).table h).table (with_formula (with_formula T g).table h).root
  pub grows : (a : ℕ) (T : List Entry) (b : ℕ) → length T ≤ length (W a T b).table
  pub tall : (g h : Formula) → (height g < height (join g h)) × (height h < height (join g h))

pub connected_joins : (c : Connective) → Joins (connected c) (with_compound c)
connected_joins c = record { means = λ T o s g h. connected_named T c g h; grows = compound_grows c; tall = taller c }

pub iff_joins : Joins iff with_equivalence
unfolding with_equivalence connected
iff_joins = record {
  means = λ T o s g h. equivalence_named T o s g h;
  grows = λ a T b.
      let x = with_compound Implies a T b in
      let y = with_compound Implies b x.table a in
      omega (arith, compound_grows Implies a T b, compound_grows Implies b x.table a, compound_grows And x.root y.table y.root);
  tall = λ g h.
      let there = taller Implies g h in
      let whole = taller And (connected Implies g h) (connected Implies h g) in
      (omega (arith, there.0, whole.0), omega (arith, there.1, whole.0));
}

module _ {join : Formula → Formula → Formula} {W : ℕ → List Entry → ℕ → Named} (j : Joins join W)
    (T : List Entry) (ordered : WellOrdered T) (once : Once T) (d : ℕ) (g h : Formula) where
  join_grows : length (with_formula (with_formula T g).table h).table ≤ length (with_formula T (join g h)).table
  join_grows = rw (j.means T ordered once g h) (j.grows (with_formula T g).root (with_formula (with_formula T g).table h).table (with_formula (with_formula T g).table h).root)

  -- What is too large for a part is so for the whole.
  pub left_exceeds : (e : ℕ) → e ≤ d + 1 → Exceeds T e g → Exceeds T d (join g h)
  left_exceeds e few (by_rows k) = by_rows (omega (arith, formula_grows (with_formula T g).table h, join_grows))
  left_exceeds e few (by_height k) = by_height (omega (arith, (j.tall g h).0))

  right_exceeds : (e : ℕ) → e ≤ d + 1 → Exceeds (with_formula T g).table e h → Exceeds T d (join g h)
  right_exceeds e few (by_rows k) = by_rows (omega (arith, join_grows))
  right_exceeds e few (by_height k) = by_height (omega (arith, (j.tall g h).1))

  -- The left one was read, and then the right one, within e connectives.
  module _ (p : Parts) (a : ℕ) (x : Holds (with_formula T g) p a) where
    pub then_exceeds : (e : ℕ) → e ≤ d + 1 → Exceeds (held p) e h → Exceeds T d (join g h)
    then_exceeds e few k = right_exceeds e few (subst (λ (U : List Entry). Exceeds U e h) x.table k)

    pub joined_named : (q : Parts) (b : ℕ) → Holds (with_formula (held p) h) q b → (w : Parts) (r : Option ℕ) → Names (W a (held q) b) w r → Names (with_formula T (join g h)) w r
    joined_named q b y w r n =
        let z : Holds (with_formula (with_formula T g).table h) q b = rw x.table at y in
        rw (j.means T ordered once g h) (rw (z.table, z.root_is, x.root_is) at n)
