-- Laws of the first pair not realized: going on from the last pair finds the same as starting anew.
use mathlib.Core.Bool.{Bool, true, false}
use mathlib.Core.List.{List, [], ◌∷◌}
use mathlib.Core.Option.{none, some, or_else}
use mathlib.Core.Path.{◌≡◌, refl, sym, ap, ◌∙◌, subst}
use Prim.Native.Nat.{ℕ, zero, suc, ◌+◌, ◌≤◌, ◌<◌, zero-le, suc-le-suc}
use native.Mathlib.Decide.{dec_lt}
use native.Mathlib.Nat.{not-suc-le-zero, le_of_suc-le-suc, add-zero, suc-add, add-suc}
use native.Mathlib.Omega.{arith}
use lib.Dec.{T}
use lib.ListN.{length, get_or}
use Rattle.atoms.specs.Words.{row_of}
use Rattle.atoms.proofs.Truth.{T_true, true_T}
use Rattle.ipl.specs.Clause.{Implication, realizes}
use Rattle.ipl.specs.Search.{first_at, first_unrealized}
use Rattle.ipl.proofs.Lists.{tabulate_length, tabulate_at}
use Rattle.prover.specs.State.{implication_row, implications_of, worlds_of}
use Rattle.prover.specs.Working.{realized_at, first_pair, Passed, AllRealized}
use Rattle.prover.specs.declared.Implications.{Implications}
use Rattle.prover.specs.declared.Worlds.{Worlds}
use Rattle.prover.specs.declared.realization.Pair as code

-- What holds from `from` to before i, and at i, holds to before i + 1.
pub passed_more : (f : ℕ → Bool) (from i : ℕ) → ((j : ℕ) → from ≤ j → j < i → T (f j)) → f i ≡ true → (j : ℕ) → from ≤ j → j < i + 1 → T (f j)
passed_more f from i h e j k l = elim (dec_lt j i) [ yes m ↦ h j k m | no m ↦ subst (λ (j : ℕ). T (f j)) (omega arith) (true_T e) ]

-- At the first pair nothing is passed.
pub passed_first : (W : Worlds) (x : Implications) → Passed W x first_pair
passed_first W x = record { worlds = λ w i h k. absurd (not-suc-le-zero h); implications = λ i h. absurd (not-suc-le-zero h) }

-- ---- the definitions by places

module _ (W : List ℕ) (w : ℕ) where
  first_at_found : (X : List Implication) (d : Implication) (k i : ℕ) → ((j : ℕ) → j < i → T (realizes W w (get_or X j d))) → i < length X → realizes W w (get_or X i d) ≡ false
      → first_at W w k X ≡ some (record { world = w; number = k + i; implication = get_or X i d })
  unfolding first_at
  first_at_found [] d k i h l e = absurd (not-suc-le-zero l)
  first_at_found (x ∷ X) d k zero h l e = rw (e, add-zero k)
  first_at_found (x ∷ X) d k (suc i) h l e =
      rw (T_true (realizes W w x) (h 0 (suc-le-suc zero-le)))
      (first_at_found X d (suc k) i (λ j m. h (suc j) (suc-le-suc m)) (le_of_suc-le-suc l) e
      ∙ ap (λ (n : ℕ). some (record { world = w; number = n; implication = get_or X i d })) (suc-add k i ∙ sym (add-suc k i)))

  first_at_none : (X : List Implication) (d : Implication) (k : ℕ) → ((j : ℕ) → j < length X → T (realizes W w (get_or X j d))) → first_at W w k X ≡ none
  unfolding first_at
  first_at_none [] d k h = refl
  first_at_none (x ∷ X) d k h =
      rw (T_true (realizes W w x) (h 0 (suc-le-suc zero-le))) (first_at_none X d (suc k) (λ j m. h (suc j) (suc-le-suc m)))

module _ (W : List ℕ) (X : List Implication) (d : Implication) where
  first_found : (U : List ℕ) (v i : ℕ) → ((u j : ℕ) → u < v → j < length X → T (realizes W (get_or U u 0) (get_or X j d)))
      → ((j : ℕ) → j < i → T (realizes W (get_or U v 0) (get_or X j d))) → v < length U → i < length X → realizes W (get_or U v 0) (get_or X i d) ≡ false
      → first_unrealized W X U ≡ some (record { world = get_or U v 0; number = i; implication = get_or X i d })
  unfolding first_unrealized or_else
  first_found [] v i h k l m e = absurd (not-suc-le-zero l)
  first_found (w ∷ U) zero i h k l m e =
      rw (first_at_found W w X d 0 i k m e) (ap (λ (n : ℕ). some (record { world = w; number = n; implication = get_or X i d })) (omega arith))
  first_found (w ∷ U) (suc v) i h k l m e =
      rw (first_at_none W w X d 0 (λ j n. h 0 j (suc-le-suc zero-le) n))
      (first_found U v i (λ u j p q. h (suc u) j (suc-le-suc p) q) k (le_of_suc-le-suc l) m e)

  first_none : (U : List ℕ) → ((u j : ℕ) → u < length U → j < length X → T (realizes W (get_or U u 0) (get_or X j d))) → first_unrealized W X U ≡ none
  unfolding first_unrealized or_else
  first_none [] h = refl
  first_none (w ∷ U) h =
      rw (first_at_none W w X d 0 (λ j n. h 0 j (suc-le-suc zero-le) n)) (first_none U (λ u j p q. h (suc u) j (suc-le-suc p) q))

-- ---- the same over the tables

module _ (t : Worlds) (x : Implications) where
  no_implication : Implication
  no_implication = record { a = 0; b = 0; c = 0 }

  at_rows : (u j : ℕ) → u < t.count → j < x.count
      → realizes (worlds_of t) (get_or (worlds_of t) u 0) (get_or (implications_of x) j no_implication) ≡ realized_at t x u j
  at_rows u j p q = rw (tabulate_at (row_of t.sets) 0 t.count u p, tabulate_at (implication_row x) no_implication x.count j q)

  pub pair_found : (p : code.Pair) → Passed t x p → p.world < t.count → p.implication < x.count → realized_at t x p.world p.implication ≡ false
      → first_unrealized (worlds_of t) (implications_of x) (worlds_of t)
      ≡ some (record { world = row_of t.sets p.world; number = p.implication; implication = implication_row x p.implication })
  pair_found p h l m e =
      let X : List Implication = implications_of x in
      let W : List ℕ = worlds_of t in
      let lw : length W ≡ t.count = tabulate_length (row_of t.sets) t.count in
      let lx : length X ≡ x.count = tabulate_length (implication_row x) x.count in
      subst (λ (w : ℕ). first_unrealized W X W ≡ some (record { world = w; number = p.implication; implication = implication_row x p.implication }))
      (tabulate_at (row_of t.sets) 0 t.count p.world l)
      (subst (λ (i : Implication). first_unrealized W X W ≡ some (record { world = get_or W p.world 0; number = p.implication; implication = i }))
      (tabulate_at (implication_row x) no_implication x.count p.implication m)
      (first_found W X no_implication W p.world p.implication
      (λ u j a b. subst T (sym (at_rows u j (omega arith) (omega (arith, lx)))) (h.worlds u j a (omega (arith, lx))))
      (λ j a. subst T (sym (at_rows p.world j l (omega arith))) (h.implications j a))
      (omega (arith, lw)) (omega (arith, lx)) (at_rows p.world p.implication l m ∙ e)))

  pub pair_none : AllRealized t x → first_unrealized (worlds_of t) (implications_of x) (worlds_of t) ≡ none
  pair_none h =
      let X : List Implication = implications_of x in
      let W : List ℕ = worlds_of t in
      let lw : length W ≡ t.count = tabulate_length (row_of t.sets) t.count in
      let lx : length X ≡ x.count = tabulate_length (implication_row x) x.count in
      first_none W X no_implication W
      (λ u j a b. subst T (sym (at_rows u j (omega (arith, lw)) (omega (arith, lx)))) (h u j (omega (arith, lw)) (omega (arith, lx))))

  -- One world's implications, and then the next world.
  pub passed_at : (p : code.Pair) (r : ℕ) → ((i : ℕ) → p.implication ≤ i → i < r → T (realized_at t x p.world i)) → Passed t x p
      → Passed t x (record { world = p.world; implication = r })
  passed_at p r f h = record {
    worlds = h.worlds;
    implications = λ i l. elim (dec_lt i p.implication) [ yes m ↦ h.implications i m | no m ↦ f i (omega arith) l ];
  }

  pub passed_world : (p : code.Pair) → ((i : ℕ) → p.implication ≤ i → i < x.count → T (realized_at t x p.world i)) → Passed t x p
      → Passed t x (record { world = p.world + 1; implication = 0 })
  passed_world p f h = record {
    worlds = λ w i a b. elim (dec_lt w p.world) [
      | yes m ↦ h.worlds w i m b
      | no m ↦ subst (λ (v : ℕ). T (realized_at t x v i)) (omega arith) ((passed_at p x.count f h).implications i b)
    ];
    implications = λ i a. absurd (not-suc-le-zero a);
  }

  -- Past the last world.
  pub passed_all : (p : code.Pair) → t.count ≤ p.world → Passed t x p → AllRealized t x
  passed_all p l h = λ w i a b. h.worlds w i (omega arith) b
