-- What the additions say of a model: a clause over lists of atoms is forced exactly if, at every world, it is true.
use mathlib.Core.Bool.{Bool, false, cond}
use mathlib.Core.List.{List, [], ◌∷◌, ◌++◌}
use mathlib.Core.Logic.{◌⊎◌, inl, inr, ◌↔◌}
use mathlib.Core.Path.{◌≡◌, refl, sym, subst}
use Prim.Native.Nat.{ℕ, ◌<◌}
use lib.Dec.{T, eqb}
use borrow.Author.Tests.{eqb-false, ne_eqb}
use Rattle.atoms.specs.Sets.{has}
use Rattle.atoms.proofs.Truth.{T_or, T_inl, T_inr, false_T, nor, by_cond}
use Rattle.atoms.proofs.Members.{has_empty, has_union}
use Rattle.ipl.specs.Lists.{any, All}
use Rattle.ipl.specs.Clause.{bot, one, closings}
use Rattle.ipl.specs.Kripke.{Model, IsModel, forces_atom, ForcesEvery, ForcesSome, ForcesFlat, ForcesImplication}
use Rattle.ipl.specs.Book.{Addition, add_flat, add_implication}
use Rattle.ipl.proofs.Lists.{All_append, All_left, All_right}
use Rattle.ipl.proofs.Range.{has_one, one_has}
use Rattle.ipl.proofs.Soundness.{forced_atom, some_one}
use Rattle.clausify.specs.Naming.{set_of, clause}
use Rattle.clausify.specs.Additions.{flats_by, implications_by}

-- What an addition brings is forced at the model's root.
abbrev pub ForcesAddition : Model → Addition → Type 0
ForcesAddition m (add_flat f) = ForcesFlat m m.root f
ForcesAddition m (add_implication i) = All (ForcesFlat m m.root) (closings i) × ForcesImplication m m.root i

pub calls_forced : (m : Model) (cs : List Addition)
    → All (ForcesAddition m) cs ↔ (All (ForcesFlat m m.root) (flats_by cs) × All (ForcesImplication m m.root) (implications_by cs))
unfolding flats_by implications_by
calls_forced m [] = (λ h. (tt, tt), λ h. tt)
calls_forced m (add_flat f ∷ cs) = (
  λ h. let r = (calls_forced m cs).0 h.1 in ((h.0, r.0), r.1),
  λ h. (h.0.0, (calls_forced m cs).1 (h.0.1, h.1)),
)
calls_forced m (add_implication i ∷ cs) = (
  λ h. let r = (calls_forced m cs).0 h.1 in (All_append (ForcesFlat m m.root) (closings i) (flats_by cs) h.0.0 r.0, (h.0.1, r.1)),
  λ h. (
    (All_left (ForcesFlat m m.root) (closings i) (flats_by cs) h.0, h.1.0),
    (calls_forced m cs).1 (All_right (ForcesFlat m m.root) (closings i) (flats_by cs) h.0, h.1.1),
  ),
)

-- The world v forces each, or some, of the atoms of a list.
abbrev Every : Model → ℕ → List ℕ → Type 0
Every m v l = All (λ x. T (forces_atom m v x)) l

abbrev pub Some : Model → ℕ → List ℕ → Type 0
Some m v [] = ⊥
Some m v (x ∷ l) = T (forces_atom m v x) ⊎ Some m v l

module _ (m : Model) (v : ℕ) where
  -- ---- a list of atoms and its set

  every_set : (l : List ℕ) → Every m v l → ForcesEvery m v (set_of l)
  unfolding set_of
  every_set [] h i t = absurd (false_T (has_empty i) t)
  every_set (x ∷ l) h i t = elim (T_or (has (one x) i) (has (set_of l) i) (subst T (has_union (one x) (set_of l) i) t)) [
    | inl k ↦ subst (λ (y : ℕ). T (forces_atom m v y)) (has_one x i k) h.0
    | inr k ↦ every_set l h.1 i k
  ]

  some_set : (l : List ℕ) → Some m v l → ForcesSome m v (set_of l)
  unfolding set_of
  some_set [] h = absurd h
  some_set (x ∷ l) (inl t) = let s = some_one m v x t in (s.0, subst T (sym (has_union (one x) (set_of l) s.0)) (T_inl (has (one x) s.0) (has (set_of l) s.0) s.1), s.2)
  some_set (x ∷ l) (inr t) = let s = some_set l t in (s.0, subst T (sym (has_union (one x) (set_of l) s.0)) (T_inr (has (one x) s.0) (has (set_of l) s.0) s.1), s.2)

  set_some : (l : List ℕ) → ForcesSome m v (set_of l) → Some m v l
  unfolding set_of
  set_some [] s = false_T (has_empty s.0) s.1
  set_some (x ∷ l) s = elim (T_or (has (one x) s.0) (has (set_of l) s.0) (subst T (has_union (one x) (set_of l) s.0) s.1)) [
    | inl k ↦ inl (subst (λ (y : ℕ). T (forces_atom m v y)) (sym (has_one x s.0 k)) s.2)
    | inr k ↦ inr (set_some l (s.0, k, s.2))
  ]

  no_bot : (l : List ℕ) → Every m v l → any (eqb bot) l ≡ false
  unfolding any
  no_bot [] h = refl
  no_bot (x ∷ l) h = rw (ne_eqb bot x (λ e. forced_atom m v x h.0 (sym e)), no_bot l h.1)

  set_every : (l : List ℕ) → any (eqb bot) l ≡ false → ForcesEvery m v (set_of l) → Every m v l
  unfolding set_of any
  set_every [] e h = tt
  set_every (x ∷ l) e h =
      let n = nor (eqb bot x) (any (eqb bot) l) e in (
        h x (subst T (sym (has_union (one x) (set_of l) x)) (T_inl (has (one x) x) (has (set_of l) x) (one_has x (λ q. eqb-false bot x n.0 (sym q))))),
        set_every l n.1 (λ i t. h i (subst T (sym (has_union (one x) (set_of l) i)) (T_inr (has (one x) i) (has (set_of l) i) t))),
      )

-- At every world: if all of left hold, one of right holds.
abbrev Reads : Model → List ℕ → List ℕ → Type 0
Reads m left right = (v : ℕ) → v < m.count → Every m v left → Some m v right

module _ (m : Model) (ok : IsModel m) where
  pub clause_forced : (left right : List ℕ) → All (ForcesAddition m) (clause left right) ↔ Reads m left right
  unfolding clause
  clause_forced left right = (
    λ h v lv t.
        let forced : All (ForcesAddition m) (cond false [] (add_flat (record { left = set_of left; right = set_of right }) ∷ [])) =
        subst (λ (b : Bool). All (ForcesAddition m) (cond b [] (add_flat (record { left = set_of left; right = set_of right }) ∷ []))) (no_bot m v left t) h in
        set_some m v right (forced.0 v lv (ok.least v lv) (every_set m v left t)),
    λ f. by_cond (All (ForcesAddition m)) (any (eqb bot) left) [] (add_flat (record { left = set_of left; right = set_of right }) ∷ []) (λ e. tt)
        (λ e. (λ v lv l h. some_set m v right (f v lv (set_every m v left e h)), tt)),
  )

  pub three_forced : (l r l2 r2 l3 r3 : List ℕ) → All (ForcesAddition m) (clause l r ++ clause l2 r2 ++ clause l3 r3) ↔ (Reads m l r × Reads m l2 r2 × Reads m l3 r3)
  three_forced l r l2 r2 l3 r3 = (
    λ h.
        let k = All_left (ForcesAddition m) (clause l r ++ clause l2 r2) (clause l3 r3) h in (
          (clause_forced l r).0 (All_left (ForcesAddition m) (clause l r) (clause l2 r2) k),
          (clause_forced l2 r2).0 (All_right (ForcesAddition m) (clause l r) (clause l2 r2) k),
          (clause_forced l3 r3).0 (All_right (ForcesAddition m) (clause l r ++ clause l2 r2) (clause l3 r3) h),
        ),
    λ h.
        All_append (ForcesAddition m) (clause l r ++ clause l2 r2) (clause l3 r3)
        (All_append (ForcesAddition m) (clause l r) (clause l2 r2) ((clause_forced l r).1 h.0) ((clause_forced l2 r2).1 h.1)) ((clause_forced l3 r3).1 h.2),
  )
