-- Theorem 3, Proposition 2 of source 000: worlds, ordered by inclusion, are a countermodel exactly if they are refuting.
use mathlib.Core.Bool.{Bool, true, false, not, ◌||◌}
use mathlib.Core.List.{List, [], ◌∷◌}
use mathlib.Core.Logic.{inl, inr, ◌↔◌}
use mathlib.Core.Path.{◌≡◌, refl, sym, subst}
use Prim.Native.Nat.{ℕ, ◌^◌, ◌≤◌, ◌<◌}
use lib.Dec.{T, T_not, not_T, eqb, eqb→eq}
use lib.ListN.{length, get_or}
use borrow.Author.Tests.{ne_eqb}
use Rattle.atoms.specs.Sets.{has, within, meets}
use Rattle.atoms.proofs.Truth.{T_left, T_right, T_and, T_or, T_dne, true_T, false_T}
use Rattle.atoms.proofs.Members.{has_past, within_has, has_within, within_refl, within_trans, has_meets, meets_has}
use Rattle.ipl.specs.Lists.{any, All}
use Rattle.ipl.specs.Clause.{bot, one, Flat, Implication, satisfies, closing, same_flat, closed, beyond, realizes}
use Rattle.ipl.specs.Kripke.{IsModel, forces_atom, ForcesEvery, ForcesSome, ForcesFlat, ForcesImplication, shown}
use Rattle.ipl.specs.Claim.{Countermodel, WorldRight, Refuting}
use Rattle.ipl.proofs.Lists.{All_at, All_of, All_map, any_at, at_any, any_with}
use Rattle.ipl.proofs.Range.{has_one}
use Rattle.ipl.proofs.Clause.{beyond_parts, beyond_of}

module _ (n : ℕ) (few : n ≤ bot) (W : List ℕ) (worlds : All (λ M. M < 2 ^ n) W) where
  -- The set of world u.
  abbrev set : ℕ → ℕ
  set u = get_or W u 0

  set_below : (u : ℕ) → u < length W → set u < 2 ^ n
  set_below u l = All_at (λ M. M < 2 ^ n) W 0 worlds u l

  -- ⊥ is in no world.
  not_bot : (M x : ℕ) → M < 2 ^ n → T (has M x) → eqb x bot ≡ false
  not_bot M x h t = ne_eqb x bot (λ e. false_T (has_past n M bot h few) (subst (λ (y : ℕ). T (has M y)) e t))

  -- An atom is forced at a world exactly if its set has it.
  forced_has : (u x : ℕ) → T (forces_atom (shown W) u x) → T (has (set u) x)
  unfolding forces_atom
  forced_has u x t = T_right (not (eqb x bot)) (has (set u) x) t

  has_forced : (u x : ℕ) → u < length W → T (has (set u) x) → T (forces_atom (shown W) u x)
  unfolding forces_atom
  has_forced u x l t =
      T_and (not (eqb x bot)) (has (set u) x) (subst (λ (b : Bool). T (not b)) (sym (not_bot (set u) x (set_below u l) t)) tt) t

  -- A clause is true at a world's set exactly if it passes from all of left to some of right there.
  satisfied_some : (u : ℕ) → u < length W → (f : Flat) → T (satisfies (set u) f) → ForcesEvery (shown W) u f.left → ForcesSome (shown W) u f.right
  unfolding satisfies
  satisfied_some u l f s h =
      elim (T_or (not (within f.left (set u))) (meets f.right (set u)) s) [
        | inl outside ↦ absurd (T_not (within f.left (set u)) outside (has_within f.left (set u) (λ i t. forced_has u i (h i t))))
        | inr common ↦ let r = meets_has f.right (set u) common in (r.0, r.1, has_forced u r.0 l r.2)
      ]

  some_satisfied : (u : ℕ) → u < length W → (f : Flat) → (ForcesEvery (shown W) u f.left → ForcesSome (shown W) u f.right) → T (satisfies (set u) f)
  unfolding satisfies
  some_satisfied u l f h = go (within f.left (set u)) refl
    where
      go : (b : Bool) → within f.left (set u) ≡ b → T (not b || meets f.right (set u))
      go false e = tt
      go true e =
          let r = h (λ i t. has_forced u i l (within_has f.left (set u) (true_T e) i t)) in
          has_meets f.right (set u) r.0 r.1 (forced_has u r.0 r.2)

  -- ---- from refuting worlds to a countermodel
  module _ (F : List Flat) (X : List Implication) (g : ℕ) (right : Refuting F X g W) where
    world_right_lem : (u : ℕ) → u < length W → WorldRight F X W (set u)
    world_right_lem u l = All_at (WorldRight F X W) W 0 right.each u l

    shown_model : IsModel (shown W)
    shown_model = record {
      root_world = right.some;
      reflexive = λ u l. within_refl (set u);
      transitive = λ u v w lu lv lw s t. within_trans (set u) (set v) (set w) s t;
      least = λ u l. (world_right_lem u l).includes;
      persistent = λ u v i lu lv l t. within_has (set u) (set v) l i t;
    }

    shown_flat : (Q : List Flat) → ((u : ℕ) → u < length W → All (λ f. T (satisfies (set u) f)) Q) → All (ForcesFlat (shown W) 0) Q
    shown_flat [] h = tt
    shown_flat (f ∷ Q) h = (λ v lv l e. satisfied_some v lv f (h v lv).0 e, shown_flat Q (λ u l. (h u l).1))

    -- Where the closing clause is held, b brings c.
    closing_brings : (M : ℕ) → M < 2 ^ n → (i : Implication) → T (has M i.b) → (f : Flat) → T (same_flat (closing i) f) → T (satisfies M f) → T (has M i.c)
    unfolding same_flat closing satisfies
    closing_brings M h i tb f e s =
        let el : one i.b ≡ f.left = eqb→eq (one i.b) f.left (T_left (eqb (one i.b) f.left) (eqb (one i.c) f.right) e) in
        let er : one i.c ≡ f.right = eqb→eq (one i.c) f.right (T_right (eqb (one i.b) f.left) (eqb (one i.c) f.right) e) in
        elim (T_or (not (within f.left M)) (meets f.right M) s) [
          | inl outside ↦ absurd (T_not (within f.left M) outside (subst (λ (x : ℕ). T (within x M)) el
              (has_within (one i.b) M (λ j t. subst (λ (x : ℕ). T (has M x)) (has_one i.b j t) tb))))
          | inr common ↦ let r = meets_has f.right M common in
              subst (λ (x : ℕ). T (has M x)) (sym (has_one i.c r.0 (subst (λ (x : ℕ). T (has x r.0)) (sym er) r.1))) r.2
        ]

    closed_brings : (M : ℕ) → M < 2 ^ n → (i : Implication) → T (closed F i) → All (λ f. T (satisfies M f)) F → T (has M i.b) → T (has M i.c)
    unfolding closed
    closed_brings M h i t s tb =
        elim (T_or (eqb i.b bot) (any (same_flat (closing i)) F) t) [
          | inl e ↦ absurd (false_T (not_bot M i.b h tb) e)
          | inr a ↦ any_with (same_flat (closing i)) (λ f. T (satisfies M f)) (T (has M i.c)) F a s (closing_brings M h i tb)
        ]

    shown_implication : (i : Implication) → T (closed F i) → ((u : ℕ) → u < length W → T (realizes W (set u) i)) → ForcesImplication (shown W) 0 i
    unfolding realizes
    shown_implication i t h v lv l k =
        let M = set v in
        let by-b : T (has M i.b) → T (forces_atom (shown W) v i.c) = λ tb.
        has_forced v i.c lv (closed_brings M (set_below v lv) i t (world_right_lem v lv).flats tb) in
        elim (T_or (has M i.a || has M i.b || has M i.c) (any (beyond i M) W) (h v lv)) [
          | inl s ↦ elim (T_or (has M i.a || has M i.b) (has M i.c) s) [
            | inl ab ↦ elim (T_or (has M i.a) (has M i.b) ab) [
              | inl ta ↦ by-b (forced_has v i.b (k v lv (within_refl M) (has_forced v i.a lv ta)))
              | inr tb ↦ by-b tb
            ]
            | inr tc ↦ has_forced v i.c lv tc
          ]
          | inr s ↦ let r = any_at (beyond i M) W 0 s in
              let x = beyond_parts i M (set r.0) r.2 in
              absurd (T_not (has (set r.0) i.b) x.lacks_b
              (forced_has r.0 i.b (k r.0 r.1 x.includes (has_forced r.0 i.a r.1 x.has_a))))
        ]

    shown_implications : (Y : List Implication) → All (λ i. T (closed F i)) Y → ((u : ℕ) → u < length W → All (λ i. T (realizes W (set u) i)) Y)
        → All (ForcesImplication (shown W) 0) Y
    shown_implications [] c h = tt
    shown_implications (i ∷ Y) c h = (shown_implication i c.0 (λ u l. (h u l).0), shown_implications Y c.1 (λ u l. (h u l).1))

    pub refuting_countermodel : All (λ i. T (closed F i)) X → Countermodel F X g (shown W)
    refuting_countermodel held = record {
      model = shown_model;
      flats = shown_flat F (λ u l. (world_right_lem u l).flats);
      implications = shown_implications X held (λ u l. (world_right_lem u l).implications);
      lacks = λ t. T_not (has (set 0) g) right.lacks (forced_has 0 g t);
    }

  -- ---- from a countermodel to refuting worlds
  module _ (F : List Flat) (X : List Implication) (g : ℕ) (counter : Countermodel F X g (shown W)) where
    -- A world that forces (a → b) → c realizes it: one beyond it is strict unless the world itself has a.
    realized : (u : ℕ) → u < length W → (i : Implication) → ForcesImplication (shown W) 0 i → T (realizes W (set u) i)
    unfolding realizes
    realized u lu i h = go (has M i.a) refl (has M i.b) (has M i.c) refl
      where
        M : ℕ
        M = set u

        go : (a : Bool) → has M i.a ≡ a → (b c : Bool) → has M i.c ≡ c → T (a || b || c || any (beyond i M) W)
        go true ea b c ec = tt
        go false ea true c ec = tt
        go false ea false true ec = tt
        go false ea false false ec =
            T_dne (any (beyond i M) W) (λ none.
            false_T ec (forced_has u i.c (h u lu (counter.model.least u lu) (λ v lv k ta.
            has_forced v i.b lv (T_dne (has (set v) i.b) (λ nb.
            T_not (any (beyond i M) W) none (at_any (beyond i M) W 0 v lv (beyond_of i M (set v) ea k (forced_has v i.a ta) nb))))))))

    pub countermodel_refuting : Refuting F X g W
    countermodel_refuting = record {
      some = counter.model.root_world;
      each = All_of (WorldRight F X W) W 0 (λ u lu. record {
        includes = counter.model.least u lu;
        flats = All_map F (λ f h. some_satisfied u lu f (h u lu (counter.model.least u lu))) counter.flats;
        implications = All_map X (λ i h. realized u lu i h) counter.implications;
      });
      lacks = not_T (has (set 0) g) (λ t. counter.lacks (has_forced 0 g counter.model.root_world t));
    }

  pub proposition_two : (F : List Flat) (X : List Implication) (g : ℕ) → All (λ i. T (closed F i)) X → Countermodel F X g (shown W) ↔ Refuting F X g W
  proposition_two F X g held = (countermodel_refuting F X g, λ right. refuting_countermodel F X g right held)
