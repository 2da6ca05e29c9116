-- The clauses of a name are forced exactly if the name is, at each world, where its part is.
use mathlib.Core.Bool.{Bool, true, false, cond}
use mathlib.Core.List.{[], ◌∷◌, ◌++◌}
use mathlib.Core.Logic.{◌⊎◌, inl, inr, ◌↔◌}
use mathlib.Core.Path.{◌≡◌, refl}
use Prim.Native.Nat.{ℕ, ◌<◌}
use lib.Dec.{T, eqb}
use borrow.Author.Tests.{eqb-true, eqb-false}
use Rattle.atoms.proofs.Truth.{by_cond}
use Rattle.ipl.specs.Lists.{All}
use Rattle.ipl.specs.Clause.{bot, closing, closings}
use Rattle.ipl.specs.Formula.{Formula}
use Rattle.ipl.specs.Kripke.{Model, IsModel, From, forces_atom, ForcesFlat, Forces}
use Rattle.ipl.specs.Book.{add_implication}
use Rattle.ipl.proofs.Lists.{All_append, All_left, All_right}
use Rattle.ipl.proofs.Range.{one_has}
use Rattle.ipl.proofs.Soundness.{forced_atom, some_one, atom_persists}
use Rattle.syntax.specs.Nodes.{Connective, And, Or, Implies, connected}
use Rattle.clausify.specs.Naming.{clause, part_calls}
use Rattle.clausify.proofs.Clauses.{ForcesAddition, Some, clause_forced, three_forced}

-- The atom x is, at each world, where P is.
abbrev pub Same : Model → ℕ → (ℕ → Type 0) → Type 0
Same m x P = (v : ℕ) → v < m.count → T (forces_atom m v x) ↔ P v

-- Where the connective of P and Q is.
abbrev Joined : Model → Connective → (ℕ → Type 0) → (ℕ → Type 0) → ℕ → Type 0
Joined m And P Q v = P v × Q v
Joined m Or P Q v = P v ⊎ Q v
Joined m Implies P Q v = From m v (λ u. P u → Q u)

-- The same worlds with other sets.
abbrev pub with_sets : Model → (ℕ → ℕ → Bool) → Model
with_sets m holds = record { count = m.count; root = m.root; le = m.le; holds = holds }

pub joined_forces : (m : Model) (holds : ℕ → ℕ → Bool) (c : Connective) (p q : Formula) (v : ℕ)
    → ◌≡◌ {A = Type 0} (Joined m c (λ u. Forces (with_sets m holds) u p) (λ u. Forces (with_sets m holds) u q) v) (Forces (with_sets m holds) v (connected c p q))
unfolding Forces connected
joined_forces m holds And p q v = refl
joined_forces m holds Or p q v = refl
joined_forces m holds Implies p q v = refl

module _ (m : Model) (ok : IsModel m) where
  only : (v x : ℕ) → Some m v (x ∷ []) → T (forces_atom m v x)
  only v x (inl t) = t
  only v x (inr e) = absurd e

  module _ (x y z : ℕ) (P Q : ℕ → Type 0) (p : Same m y P) (q : Same m z Q) where
    -- ⊥ is nowhere, so P is not.
    none_there : eqb y bot ≡ true → (u : ℕ) → u < m.count → P u → ⊥
    none_there e u lu a = forced_atom m u y ((p u lu).1 a) (eqb-true y bot e)

    implies_name : (b : Bool) → eqb y bot ≡ b → All (ForcesAddition m) (cond b (clause [] (x ∷ [])) (clause (x ∷ y ∷ []) (z ∷ []) ++ (add_implication (record { a = y; b = z; c = x }) ∷ [])))
        → Same m x (Joined m Implies P Q)
    implies_name true e h v lv = (λ t u lu k a. absurd (none_there e u lu a), λ s. only v x ((clause_forced m ok [] (x ∷ [])).0 h v lv tt))
    implies_name false e h v lv =
        let r = (clause_forced m ok (x ∷ y ∷ []) (z ∷ [])).0 (All_left (ForcesAddition m) (clause (x ∷ y ∷ []) (z ∷ [])) (add_implication (record { a = y; b = z; c = x }) ∷ []) h) in
        let i = All_right (ForcesAddition m) (clause (x ∷ y ∷ []) (z ∷ [])) (add_implication (record { a = y; b = z; c = x }) ∷ []) h in (
          λ t u lu k a. (q u lu).0 (only u z (r u lu (atom_persists m ok v u x lv lu k t, ((p u lu).1 a, tt)))),
          λ s. i.0.1 v lv (ok.least v lv) (λ u lu k t. (q u lu).1 (s u lu k ((p u lu).0 t))),
        )

    pub clauses_name : (c : Connective) → All (ForcesAddition m) (part_calls c x y z) → Same m x (Joined m c P Q)
    unfolding part_calls
    clauses_name And h v lv =
        let r = (three_forced m ok (x ∷ []) (y ∷ []) (x ∷ []) (z ∷ []) (y ∷ z ∷ []) (x ∷ [])).0 h in (
          λ t. ((p v lv).0 (only v y (r.0 v lv (t, tt))), (q v lv).0 (only v z (r.1 v lv (t, tt)))),
          λ s. only v x (r.2 v lv ((p v lv).1 s.0, ((q v lv).1 s.1, tt))),
        )
    clauses_name Or h v lv =
        let r = (three_forced m ok (x ∷ []) (y ∷ z ∷ []) (y ∷ []) (x ∷ []) (z ∷ []) (x ∷ [])).0 h in (
          λ t. elim (r.0 v lv (t, tt)) [ inl a ↦ inl ((p v lv).0 a) | inr b ↦ inr ((q v lv).0 (only v z b)) ],
          λ s. elim s [ inl a ↦ only v x (r.1 v lv ((p v lv).1 a, tt)) | inr b ↦ only v x (r.2 v lv ((q v lv).1 b, tt)) ],
        )
    clauses_name Implies h v lv = implies_name (eqb y bot) refl h v lv

    closing_forced : Same m x (Joined m Implies P Q) → All (ForcesFlat m m.root) (closings (record { a = y; b = z; c = x }))
    unfolding closings closing
    closing_forced s =
        by_cond (All (ForcesFlat m m.root)) (eqb z bot) [] _ (λ e. tt)
        (λ e. (λ v lv l h. some_one m v x ((s v lv).1 (λ u lu k a. (q u lu).0 (atom_persists m ok v u z lv lu k (h z (one_has z (eqb-false z bot e)))))), tt))

    pub name_clauses : (c : Connective) → Same m x (Joined m c P Q) → All (ForcesAddition m) (part_calls c x y z)
    unfolding part_calls
    name_clauses And s =
        (three_forced m ok (x ∷ []) (y ∷ []) (x ∷ []) (z ∷ []) (y ∷ z ∷ []) (x ∷ [])).1 (
          λ v lv t. inl ((p v lv).1 ((s v lv).0 t.0).0),
          λ v lv t. inl ((q v lv).1 ((s v lv).0 t.0).1),
          λ v lv t. inl ((s v lv).1 ((p v lv).0 t.0, (q v lv).0 t.1.0)),
        )
    name_clauses Or s =
        (three_forced m ok (x ∷ []) (y ∷ z ∷ []) (y ∷ []) (x ∷ []) (z ∷ []) (x ∷ [])).1 (
          λ v lv t. elim ((s v lv).0 t.0) [ inl a ↦ inl ((p v lv).1 a) | inr b ↦ inr (inl ((q v lv).1 b)) ],
          λ v lv t. inl ((s v lv).1 (inl ((p v lv).0 t.0))),
          λ v lv t. inl ((s v lv).1 (inr ((q v lv).0 t.0))),
        )
    name_clauses Implies s =
        by_cond (All (ForcesAddition m)) (eqb y bot) _ _ (λ e. (clause_forced m ok [] (x ∷ [])).1 (λ v lv t. inl ((s v lv).1 (λ u lu k a. absurd (none_there e u lu a)))))
        (λ e. All_append (ForcesAddition m) (clause (x ∷ y ∷ []) (z ∷ [])) (add_implication (record { a = y; b = z; c = x }) ∷ [])
        ((clause_forced m ok (x ∷ y ∷ []) (z ∷ [])).1 (λ v lv t. inl ((q v lv).1 ((s v lv).0 t.0 v lv (ok.reflexive v lv) ((p v lv).0 t.1.0)))))
        ((closing_forced s, λ v lv l f. (s v lv).1 (λ u lu k a. (q u lu).0 (f u lu k ((p u lu).1 a)))), tt))
