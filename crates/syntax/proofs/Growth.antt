-- What every new row of a table keeps, a formula's table has.
use mathlib.Core.List.{List, [], ◌∷◌, ◌++◌}
use mathlib.Core.Path.{◌≡◌, refl}
use Prim.Native.Nat.{◌≤◌}
use native.Mathlib.Omega.{arith}
use lib.Dec.{ltb}
use lib.ListN.{length, length-append}
use borrow.Author.Tests.{ltb-false}
use Rattle.atoms.proofs.Truth.{by_cond}
use Rattle.ipl.specs.Formula.{Formula, letter, falsum, and, or, implies}
use Rattle.syntax.specs.Nodes.{Connective, And, Or, Implies, Entry, compound, index_of, with_entry, with_formula, connected}

module _ (P : List Entry → Type 0) (new_row : (T : List Entry) (e : Entry) → length T ≤ index_of e T → P T → P (T ++ (e ∷ []))) where
  pub entry_keeps : (T : List Entry) (e : Entry) → P T → P (with_entry T e).table
  unfolding with_entry
  entry_keeps T e h = by_cond P (ltb (index_of e T) (length T)) T (T ++ (e ∷ [])) (λ t. h) (λ t. new_row T e (ltb-false _ _ t) h)

  pub formula_keeps : (f : Formula) (T : List Entry) → P T → P (with_formula T f).table
  unfolding with_formula
  formula_keeps (letter l) T h = entry_keeps T _ h
  formula_keeps falsum T h = entry_keeps T _ h
  formula_keeps (and p q) T h = entry_keeps _ _ (formula_keeps q _ (formula_keeps p T h))
  formula_keeps (or p q) T h = entry_keeps _ _ (formula_keeps q _ (formula_keeps p T h))
  formula_keeps (implies p q) T h = entry_keeps _ _ (formula_keeps q _ (formula_keeps p T h))

-- Tables only grow.
longer : (T : List Entry) (U : List Entry) (e : Entry) → length T ≤ length U → length T ≤ length (U ++ (e ∷ []))
longer T U e h = omega (arith, length-append U (e ∷ []))

pub entry_grows : (T : List Entry) (e : Entry) → length T ≤ length (with_entry T e).table
entry_grows T e = entry_keeps (λ (U : List Entry). length T ≤ length U) (λ U x n h. longer T U x h) T e (omega arith)

pub formula_grows : (T : List Entry) (f : Formula) → length T ≤ length (with_formula T f).table
formula_grows T f = formula_keeps (λ (U : List Entry). length T ≤ length U) (λ U x n h. longer T U x h) f T (omega arith)

-- Both parts, then the row of the whole.
pub connected_named : (T : List Entry) (c : Connective) (p q : Formula) → with_formula T (connected c p q)
    ≡ with_entry (with_formula (with_formula T p).table q).table (compound c (with_formula T p).root (with_formula (with_formula T p).table q).root)
unfolding with_formula connected
connected_named T And p q = refl
connected_named T Or p q = refl
connected_named T Implies p q = refl
