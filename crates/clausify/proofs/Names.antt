-- "At each world of any model of these clauses, a name is forced exactly where its part is."
use mathlib.Core.List.{List, []}
use mathlib.Core.Logic.{◌↔◌}
use mathlib.Core.Path.{◌≡◌, refl, sym, ◌∙◌, ap, subst}
use Prim.Native.Nat.{ℕ, zero, suc, ◌<◌}
use native.Mathlib.Omega.{arith}
use lib.Dec.{T}
use lib.ListN.{length, get_or}
use Rattle.ipl.specs.Lists.{All}
use Rattle.ipl.specs.Formula.{Formula}
use Rattle.ipl.specs.Kripke.{Model, IsModel, forces_atom, ForcesFlat, ForcesImplication, Forces}
use Rattle.ipl.proofs.Soundness.{forced_atom}
use Rattle.syntax.specs.Nodes.{Entry, letter, falsum, compound, index_of, nodes, entry_formula, formulas_after, formula_at, Earlier, WellOrdered, Once}
use Rattle.syntax.proofs.Once.{table_once}
use Rattle.syntax.proofs.Stands.{row_formula, table_ordered}
use Rattle.clausify.specs.Naming.{atoms_of, atom_at, calls}
use Rattle.clausify.specs.Additions.{flats_by, implications_by}
use Rattle.clausify.specs.Demand.{on_letters}
use Rattle.clausify.proofs.Compounds.{calls_at}
use Rattle.clausify.specs.Writing.{entry_calls}
use Rattle.clausify.proofs.Atoms.{falsum_bot}
use Rattle.clausify.proofs.Clauses.{ForcesAddition, calls_forced}
use Rattle.clausify.proofs.Part.{Same, joined_forces, clauses_name}

module _ (E : List Entry) (ordered : WellOrdered E) (once : Once E) (m : Model) (ok : IsModel m) (h : All (ForcesAddition m) (calls E)) where
  abbrev There : ℕ → Type 0
  There i = Same m (atom_at E i) (λ v. Forces (on_letters E m) v (formula_at E i))

  entry_there : (i : ℕ) → i < length E → ((j : ℕ) → j < i → There j) → (e : Entry) → get_or E i falsum ≡ e
      → Same m (atom_at E i) (λ v. Forces (on_letters E m) v (entry_formula (formulas_after [] E) e))
  unfolding entry_formula Forces formula_at
  entry_there i l ih (letter s) q v lv = rw (ap (λ (x : Entry). index_of x E) (sym q) ∙ once i l) (λ t. t, λ t. t)
  entry_there i l ih falsum q v lv = (λ t. forced_atom m v (atom_at E i) t (falsum_bot E i l q), λ t. absurd t)
  entry_there i l ih (compound c a b) q v lv =
      let early : (a < i) × (b < i) = subst (Earlier i) q (ordered i l) in
      subst (λ (X : Type 0). T (forces_atom m v (atom_at E i)) ↔ X) (joined_forces m (on_letters E m).holds c (formula_at E a) (formula_at E b) v)
      (clauses_name m ok (atom_at E i) (atom_at E a) (atom_at E b) (λ u. Forces (on_letters E m) u (formula_at E a)) (λ u. Forces (on_letters E m) u (formula_at E b))
      (ih a early.0) (ih b early.1) c (subst (λ (x : Entry). All (ForcesAddition m) (entry_calls (atoms_of E) (atom_at E i) x)) q (calls_at (ForcesAddition m) E h i l)) v lv)

  there : (k i : ℕ) → i < k → i < length E → There i
  there zero i lk l = absurd (omega arith)
  there (suc k) i lk l =
      subst (λ (p : Formula). Same m (atom_at E i) (λ v. Forces (on_letters E m) v p)) (sym (row_formula E ordered i l))
      (entry_there i l (λ j lj. there k j (omega arith) (omega arith)) (get_or E i falsum) refl)

pub names_forced : (f : Formula) (m : Model) → IsModel m
    → All (ForcesFlat m m.root) (flats_by (calls (nodes f).table)) → All (ForcesImplication m m.root) (implications_by (calls (nodes f).table))
    → (i : ℕ) → i < length (nodes f).table → (w : ℕ) → w < m.count
    → T (forces_atom m w (atom_at (nodes f).table i)) ↔ Forces (on_letters (nodes f).table m) w (formula_at (nodes f).table i)
names_forced f m ok F X i l =
    there (nodes f).table (table_ordered f) (table_once f) m ok ((calls_forced m (calls (nodes f).table)).1 (F, X)) (suc i) i (omega arith) l
