-- Theorem 2: a classical consequence and the clause of a learned step are forced at every world of every model that forces
-- what they come from (source 000, section 3).
use mathlib.Core.Bool.{Bool, true, false, not, ◌||◌}
use mathlib.Core.List.{List}
use mathlib.Core.Logic.{inl, inr}
use mathlib.Core.Option.{none}
use mathlib.Core.Path.{◌≡◌, refl, sym, ◌∙◌, subst}
use Prim.Native.Nat.{ℕ, ◌^◌, ◌≤◌, ◌<◌}
use lib.Dec.{T, eqb}
use borrow.Author.Tests.{eqb-true}
use Rattle.atoms.specs.Sets.{has, remove, within, meets}
use Rattle.atoms.proofs.Truth.{T_left, T_right, T_and, true_T, false_T, T_dne}
use Rattle.atoms.proofs.Members.{has_past, has_below, has_remove, within_has, has_within, has_meets, set_of, set_of_lt, has_set_of}
use Rattle.ipl.specs.Lists.{All}
use Rattle.ipl.specs.Clause.{bot, one, Flat, Implication, satisfies, learned}
use Rattle.ipl.specs.Question.{ask}
use Rattle.ipl.specs.Kripke.{Model, IsModel, forces_atom, ForcesEvery, ForcesSome, ForcesFlat, ForcesImplication}
use Rattle.ipl.proofs.Lists.{All_map, All_zip}
use Rattle.ipl.proofs.Range.{AtomOrBot, FlatBelow, one_has}
use Rattle.ipl.proofs.Question.{ask_none_iff}

pub bot_unforced : (m : Model) (w : ℕ) → forces_atom m w bot ≡ false
unfolding forces_atom
bot_unforced m w = refl

-- An atom that is forced is not ⊥.
pub forced_atom : (m : Model) (w x : ℕ) → T (forces_atom m w x) → x ≡ bot → ⊥
forced_atom m w x t e = false_T (bot_unforced m w) (subst (λ (y : ℕ). T (forces_atom m w y)) e t)

pub some_one : (m : Model) (w x : ℕ) → T (forces_atom m w x) → ForcesSome m w (one x)
some_one m w x t = (x, one_has x (forced_atom m w x t), t)

pub atom_persists : (m : Model) → IsModel m → (u v x : ℕ) → u < m.count → v < m.count → T (m.le u v) → T (forces_atom m u x) → T (forces_atom m v x)
unfolding forces_atom
atom_persists m ok u v x lu lv l t =
    T_and (not (eqb x bot)) (m.holds v x) (T_left (not (eqb x bot)) (m.holds u x) t)
    (ok.persistent u v x lu lv l (T_right (not (eqb x bot)) (m.holds u x) t))

module _ (n : ℕ) (few : n ≤ bot) (m : Model) (ok : IsModel m) where
  -- The set of the atoms forced at a world.
  atoms_at : ℕ → ℕ
  atoms_at w = set_of n (forces_atom m w)

  atoms_below : (w : ℕ) → atoms_at w < 2 ^ n
  unfolding atoms_at
  atoms_below w = set_of_lt n (forces_atom m w)

  has_atom : (w x : ℕ) → AtomOrBot n x → has (atoms_at w) x ≡ forces_atom m w x
  unfolding atoms_at
  has_atom w x (inl h) = has_set_of n (forces_atom m w) x h
  has_atom w x (inr e) = rw e (has_past n (atoms_at w) bot (atoms_below w) few ∙ sym (bot_unforced m w))

  -- A clause that a world forces is true at its set.
  forced_satisfied : (w : ℕ) → w < m.count → (f : Flat) → FlatBelow n f → ForcesFlat m w f → T (satisfies (atoms_at w) f)
  unfolding satisfies
  forced_satisfied w lw f o h = go (within f.left (atoms_at w)) refl
    where
      go : (b : Bool) → within f.left (atoms_at w) ≡ b → T (not b || meets f.right (atoms_at w))
      go false e = tt
      go true e =
          let s = h w lw (ok.reflexive w lw) (λ i t.
          subst T (has_atom w i (inl (has_below n f.left i o.left t))) (within_has f.left (atoms_at w) (true_T e) i t)) in
          has_meets f.right (atoms_at w) s.0 s.1 (subst T (sym (has_atom w s.0 (inl (has_below n f.right s.0 o.right s.1)))) s.2)

  -- What R and A prove classically is forced at each world that forces R and A.
  pub consequence_forced : (R : List Flat) (A b : ℕ) → All (FlatBelow n) R → A < 2 ^ n → AtomOrBot n b → ask n R A b ≡ none
      → (w : ℕ) → w < m.count → All (ForcesFlat m w) R → ForcesEvery m w A → T (forces_atom m w b)
  consequence_forced R A b oR oA ob e w lw hR hA =
      T_dne (forces_atom m w b)
      (λ nb. (ask_none_iff n R A b).0 e (atoms_at w)
      (record {
        below = atoms_below w;
        includes = has_within A (atoms_at w) (λ i t. subst T (sym (has_atom w i (inl (has_below n A i oA t)))) (hA i t));
        lacks = subst (λ (x : Bool). T (not x)) (sym (has_atom w b ob)) nb;
        satisfied = All_map R (λ f h. forced_satisfied w lw f h.0 h.1) (All_zip (FlatBelow n) (ForcesFlat m w) R oR hR);
      }))

  every_persists : (u v s : ℕ) → u < m.count → v < m.count → T (m.le u v) → ForcesEvery m u s → ForcesEvery m v s
  every_persists u v s lu lv l h i t = atom_persists m ok u v i lu lv l (h i t)

  flat_persists : (u v : ℕ) → u < m.count → v < m.count → T (m.le u v) → (f : Flat) → ForcesFlat m u f → ForcesFlat m v f
  flat_persists u v lu lv l f h w lw k = h w lw (ok.transitive u v w lu lv lw l k)

  -- A is forced where a and the rest of A are.
  every_with : (u A a : ℕ) → ForcesEvery m u (remove A a) → T (forces_atom m u a) → ForcesEvery m u A
  every_with u A a h t j tj = go (eqb a j) refl
    where
      go : (b : Bool) → eqb a j ≡ b → T (forces_atom m u j)
      go true e = subst (λ (x : ℕ). T (forces_atom m u x)) (eqb-true a j e) t
      go false e = h j (subst T (sym (has_remove A a j)) (T_and (has A j) (not (eqb a j)) tj (subst (λ (x : Bool). T (not x)) (sym e) tt)))

  -- Where R and (a → b) → c are forced, and R and A prove b, the learned clause is forced.
  pub learned_forced : (R : List Flat) (i : Implication) (A : ℕ) → All (FlatBelow n) R → A < 2 ^ n → AtomOrBot n i.b → ask n R A i.b ≡ none
      → (w : ℕ) → w < m.count → All (ForcesFlat m w) R → ForcesImplication m w i → ForcesFlat m w (learned i A)
  unfolding learned
  learned_forced R i A oR oA ob e w lw hR hi v lv l hv =
      some_one m v i.c
      (hi v lv l
      (λ u lu k ta.
      consequence_forced R A i.b oR oA ob e u lu
      (All_map R (λ f h. flat_persists w u lw lu (ok.transitive w v u lw lv lu l k) f h) hR)
      (every_with u A i.a (every_persists v u (remove A i.a) lv lu k hv) ta)))
