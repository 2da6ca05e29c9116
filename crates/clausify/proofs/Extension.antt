-- Every model over the letters extends to a model of the clauses, in which each part's atom is where the part is forced.
use mathlib.Core.Bool.{Bool, true, false, not, ◌&&◌}
use mathlib.Core.List.{List, []}
use mathlib.Core.Logic.{◌↔◌}
use mathlib.Core.Path.{◌≡◌, refl, sym, ap, ◌∙◌, subst}
use Prim.Native.Nat.{ℕ, ◌≤◌, ◌<◌}
use native.Mathlib.Omega.{arith}
use lib.Dec.{T, eqb}
use lib.ListN.{length, get_or}
use borrow.Author.Tests.{eqb-true, eqb-false}
use Rattle.ipl.specs.Lists.{All}
use Rattle.ipl.specs.Clause.{bot}
use Rattle.ipl.specs.Kripke.{Model, IsModel, forces_atom, ForcesFlat, ForcesImplication, Forces}
use Rattle.ipl.proofs.Forcing.{forces_test, forces_tested, forces_persistent}
use Rattle.syntax.specs.Nodes.{Entry, letter, falsum, compound, named, connected, entry_formula, formulas_after, formula_at, Earlier, WellOrdered}
use Rattle.syntax.specs.Refusal.{most_names}
use Rattle.syntax.proofs.Stands.{row_formula}
use Rattle.clausify.specs.Naming.{atoms_of, atom_at, calls}
use Rattle.clausify.specs.Additions.{flats_by, implications_by}
use Rattle.clausify.proofs.Compounds.{calls_of}
use Rattle.clausify.specs.Writing.{entry_calls}
use Rattle.clausify.proofs.Atoms.{bot_falsum, part_with, part_found}
use Rattle.clausify.proofs.Clauses.{ForcesAddition, calls_forced}
use Rattle.clausify.proofs.Part.{Same, with_sets, joined_forces, name_clauses}

-- The atom x is where the part with that atom is forced.
abbrev pub extended : List Entry → Model → Model
extended E m = with_sets m (λ w x. forces_test m w (formula_at E (part_with x (atoms_of E))))

module _ (E : List Entry) (m : Model) (ok : IsModel m) where
  pub extended_model : IsModel (extended E m)
  extended_model = record {
    root_world = ok.root_world;
    reflexive = ok.reflexive;
    transitive = ok.transitive;
    least = ok.least;
    persistent = λ u v x lu lv l t.
        let p = formula_at E (part_with x (atoms_of E)) in (forces_tested m p v).1 (forces_persistent m ok p u v lu lv l ((forces_tested m p u).0 t));
  }

  module _ (ordered : WellOrdered E) (few : named E ≤ most_names) where
    pub extended_atoms : (i : ℕ) → i < length E → Same (extended E m) (atom_at E i) (λ v. Forces m v (formula_at E i))
    unfolding forces_atom
    extended_atoms i l v lv = go (eqb (atom_at E i) bot) refl
      where
        falsum_unforced : atom_at E i ≡ bot → Forces m v (formula_at E i) → ⊥
        falsum_unforced e s =
            unfold Forces entry_formula in
            subst (Forces m v) (row_formula E ordered i l ∙ ap (entry_formula (formulas_after [] E)) (bot_falsum E i few l e)) s

        go : (b : Bool) → eqb (atom_at E i) bot ≡ b → T (not b && forces_test m v (formula_at E (part_with (atom_at E i) (atoms_of E)))) ↔ Forces m v (formula_at E i)
        go true e = (λ t. absurd t, λ s. falsum_unforced (eqb-true (atom_at E i) bot e) s)
        go false e = rw (part_found E i l (eqb-false (atom_at E i) bot e)) (forces_tested m (formula_at E i) v)

    entry_forced : (i : ℕ) → i < length E → (e : Entry) → get_or E i falsum ≡ e → All (ForcesAddition (extended E m)) (entry_calls (atoms_of E) (atom_at E i) e)
    unfolding entry_formula formula_at
    entry_forced i l (letter s) q = tt
    entry_forced i l falsum q = tt
    entry_forced i l (compound c a b) q =
        let early : (a < i) × (b < i) = subst (Earlier i) q (ordered i l) in
        let is : formula_at E i ≡ connected c (formula_at E a) (formula_at E b) = row_formula E ordered i l ∙ ap (entry_formula (formulas_after [] E)) q in
        name_clauses (extended E m) extended_model (atom_at E i) (atom_at E a) (atom_at E b) (λ u. Forces m u (formula_at E a)) (λ u. Forces m u (formula_at E b))
        (extended_atoms a (omega arith)) (extended_atoms b (omega arith)) c
        (λ v lv. subst (λ (X : Type 0). T (forces_atom (extended E m) v (atom_at E i)) ↔ X)
        (ap (Forces m v) is ∙ sym (joined_forces (extended E m) m.holds c (formula_at E a) (formula_at E b) v)) (extended_atoms i l v lv))

    pub extended_clauses : All (ForcesFlat (extended E m) m.root) (flats_by (calls E)) × All (ForcesImplication (extended E m) m.root) (implications_by (calls E))
    extended_clauses = (calls_forced (extended E m) (calls E)).0 (calls_of (ForcesAddition (extended E m)) E (λ i l. entry_forced i l (get_or E i falsum) refl))
