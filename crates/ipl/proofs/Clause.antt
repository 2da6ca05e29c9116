-- Laws of realization, and of a learned clause at the world where it was learned.
use mathlib.Core.Bool.{false, not, ◌&&◌, ◌||◌}
use mathlib.Core.List.{List}
use mathlib.Core.Logic.{inl, inr}
use mathlib.Core.Path.{◌≡◌, sym, subst}
use Prim.Native.Nat.{ℕ}
use lib.Dec.{T, T_not, not_T, eqb, eqb→eq}
use Rattle.atoms.specs.Sets.{has, insert, remove, within, meets}
use Rattle.atoms.proofs.Truth.{T_left, T_right, T_and, T_or, T_true, T_false, false_T, nor}
use Rattle.atoms.proofs.Members.{has_insert, has_remove, has_within, meets_has}
use Rattle.ipl.specs.Lists.{any}
use Rattle.ipl.specs.Clause.{one, Implication, satisfies, beyond, realizes, learned}
use Rattle.ipl.proofs.Range.{has_one}

-- A world beyond M, part by part.
pub record Beyond (i : Implication) (M u : ℕ) : Type 0 where
  pub includes : T (within M u)
  pub differs : T (not (eqb M u))
  pub has_a : T (has u i.a)
  pub lacks_b : T (not (has u i.b))

pub beyond_parts : (i : Implication) (M u : ℕ) → T (beyond i M u) → Beyond i M u
unfolding beyond
beyond_parts i M u t =
    let abc = T_left (within M u && not (eqb M u) && has u i.a) (not (has u i.b)) t in
    let ab = T_left (within M u && not (eqb M u)) (has u i.a) abc in
    record {
      includes = T_left (within M u) (not (eqb M u)) ab;
      differs = T_right (within M u) (not (eqb M u)) ab;
      has_a = T_right (within M u && not (eqb M u)) (has u i.a) abc;
      lacks_b = T_right (within M u && not (eqb M u) && has u i.a) (not (has u i.b)) t;
    }

-- A larger world that has a differs from one that lacks it.
pub beyond_of : (i : Implication) (M u : ℕ) → has M i.a ≡ false → T (within M u) → T (has u i.a) → T (not (has u i.b)) → T (beyond i M u)
unfolding beyond
beyond_of i M u ea k ta nb =
    T_and (within M u && not (eqb M u) && has u i.a) (not (has u i.b))
    (T_and (within M u && not (eqb M u)) (has u i.a) (T_and (within M u) (not (eqb M u)) k differs) ta) nb
  where
    differs : T (not (eqb M u))
    differs = not_T (eqb M u) (λ e. false_T ea (subst (λ (x : ℕ). T (has x i.a)) (sym (eqb→eq M u e)) ta))

-- A world that does not realize an implication.
pub record Unrealized (W : List ℕ) (w : ℕ) (i : Implication) : Type 0 where
  pub lacks_a : has w i.a ≡ false
  pub lacks_b : has w i.b ≡ false
  pub lacks_c : has w i.c ≡ false
  pub none_beyond : any (beyond i w) W ≡ false

pub unrealized : (W : List ℕ) (w : ℕ) (i : Implication) → realizes W w i ≡ false → Unrealized W w i
unfolding realizes
unrealized W w i e =
    let abc = nor (has w i.a || has w i.b || has w i.c) (any (beyond i w) W) e in
    let ab = nor (has w i.a || has w i.b) (has w i.c) abc.0 in
    let a = nor (has w i.a) (has w i.b) ab.0 in
    record { lacks_a = a.0; lacks_b = a.1; lacks_c = ab.1; none_beyond = abc.1 }

-- The clause learned from part of w and a fails at w, which lacks c.
pub learned_fails : (w A : ℕ) (i : Implication) → has w i.c ≡ false → ((j : ℕ) → T (has A j) → T (has (insert w i.a) j))
    → satisfies w (learned i A) ≡ false
unfolding satisfies learned
learned_fails w A i ec part = rw (T_true (within (remove A i.a) w) inside, T_false (meets (one i.c) w) apart)
  where
    inside : T (within (remove A i.a) w)
    inside = has_within (remove A i.a) w (λ j t.
        let x : T (has A j && not (eqb i.a j)) = subst T (has_remove A i.a j) t in
        elim (T_or (has w j) (eqb i.a j) (subst T (has_insert w i.a j) (part j (T_left (has A j) (not (eqb i.a j)) x)))) [
          | inl h ↦ h
          | inr e ↦ absurd (T_not (eqb i.a j) (T_right (has A j) (not (eqb i.a j)) x) e)
        ])

    apart : T (meets (one i.c) w) → ⊥
    apart t = let r = meets_has (one i.c) w t in false_T ec (subst (λ (x : ℕ). T (has w x)) (sym (has_one i.c r.0 r.1)) r.2)
