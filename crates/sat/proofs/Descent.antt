-- Laws of the search: where propagation ends, the two sides of a decision, and how their answers combine.
use Rattle.std.specs.Prelude.{Option, None, Some}
use Rattle.std.proofs.Common.{◌≡◌, ℕ, suc, ◌+◌, ◌<◌, ◌≤◌, max, Bool, true, false, sym, ap, ◌∙◌, subst, le_of_lt, arith}
use native.Mathlib.Decide.{dec_lt, ℕ_discrete}
use Rattle.atoms.specs.Sets.{bit_at, limit, union, minus, meets, Highest}
use Rattle.atoms.specs.Words.{num, every_atom}
use Rattle.atoms.specs.declared.AtomSet.{AtomSet}
use Rattle.atoms.proofs.Bits.{bit_le, bit_zero, bit_one, bit_other, bit_past, bit_top, bit_ext, bit_order, bits_le}
use Rattle.atoms.proofs.Machine.{every_atom_lem, every_past}
use Rattle.sat.specs.Table.{Within, Apart}
use Rattle.sat.specs.Knowledge.{PartialIs, Extends, Fits, Grown}
use Rattle.sat.specs.Descent.{Model, Smallest, NoModel, Settles, no_limit, Spent, Answers, Pick, Cut, Told}
use Rattle.sat.specs.declared.known.Partial.{Partial}
use Rattle.sat.specs.declared.search.Found.{Found}
use Rattle.sat.specs.declared.search.Found.TheVariants.{Least, Blocked, GaveUp}
use Rattle.sat.proofs.Table.{union_bits, minus_bits, meets_of}

module _ (P : ℕ → Type 0) where
  -- ---- where propagation ends

  -- What is known true is a model: it is the smallest.
  pub known_least : (y x y2 x2 : ℕ) → Grown P y x y2 x2 → P y2 → Smallest P y x y2
  known_least y x y2 x2 g h = record {
    member = record {
      below = g.proper.has_below;
      extends = record { includes = g.more_has; avoids = λ i. omega (arith, g.more_lacks i, g.proper.apart i) };
      holds = h;
    };
    least = λ k w. bits_le y2 k (g.keeps k w.extends w.holds).includes;
  }

  -- Every atom is known, and what is known true is no model: there is none.
  pub known_none : (p q : Partial) → Grown P (num p.has) (num p.lacks) (num q.has) (num q.lacks)
      → ((i : ℕ) → i < limit → 1 ≤ bit_at (num q.has) i + bit_at (num q.lacks) i) → (P (num q.has) → ⊥) → NoModel P p
  known_none p q g all f m w = f (subst P (bit_ext m (num q.has) at) w.holds)
    where
      e : Fits q m
      e = g.keeps m w.extends w.holds

      at : (i : ℕ) → bit_at m i ≡ bit_at (num q.has) i
      at i = elim (dec_lt i limit) [
        | yes k ↦ omega (arith, all i k, e.includes i, e.avoids i, bit_le m i, bit_le (num q.has) i)
        | no k ↦ bit_past limit m i w.below (omega arith) ∙ sym (bit_past limit (num q.has) i g.proper.has_below (omega arith))
      ]

  -- There is no model, and the conflict was counted.
  pub spent_answers : (p : Partial) (a : ℕ) (f : Found) → NoModel P p → Spent a f → Answers P p a f
  spent_answers p a (Blocked r) n e = (n, e)
  spent_answers p a GaveUp n e = e
  spent_answers p a (Least s) n e = absurd e

-- ---- the highest open atom

module _ (y x u o : ℕ) (eu : u ≡ union y x) (eo : o ≡ minus every_atom u) where
  known_at : (i : ℕ) → i < limit → bit_at o i ≡ 0 → 1 ≤ bit_at y i + bit_at x i
  known_at i k z = omega (arith, union_bits y x u eu i, minus_bits every_atom u o eo i, every_atom_lem i k)

  pub none_open : o ≡ 0 → (i : ℕ) → i < limit → 1 ≤ bit_at y i + bit_at x i
  none_open z i k = known_at i k (ap (λ (s : ℕ). bit_at s i) z ∙ bit_zero i)

  pub pick_highest : (t : ℕ) → Highest o t → Pick y x t
  pick_highest t h =
      let j = h.atom in
      let one : bit_at o j ≡ 1 = bit_top j o h.member h.above in
      record {
        atom = j;
        alone = h.alone;
        small = elim (dec_lt j limit) [ yes k ↦ k | no k ↦ absurd (omega (arith, one, minus_bits every_atom u o eo j, every_past j (omega arith))) ];
        open_has = omega (arith, one, union_bits y x u eu j, minus_bits every_atom u o eo j, bit_le every_atom j);
        open_lacks = omega (arith, one, union_bits y x u eu j, minus_bits every_atom u o eo j, bit_le every_atom j);
        above = λ i l k. known_at i k (bit_past (suc j) o i h.above l);
      }

-- ---- one atom more in a set

module _ (y x t : ℕ) (p : Pick y x t) where
  t_same : bit_at t p.atom ≡ 1
  t_same = ap (λ (z : ℕ). bit_at z p.atom) p.alone ∙ bit_one p.atom

  t_other : (i : ℕ) → (p.atom ≡ i → ⊥) → bit_at t i ≡ 0
  t_other i d = ap (λ (z : ℕ). bit_at z i) p.alone ∙ bit_other p.atom i d

  -- By cases: the atom, or another.
  by_atom : (Q : ℕ → Type 0) → Q p.atom → ((i : ℕ) → bit_at t i ≡ 0 → Q i) → (i : ℕ) → Q i
  by_atom Q a f i = elim (ℕ_discrete p.atom i) [ yes d ↦ subst Q d a | no d ↦ f i (t_other i d) ]

  -- It is not known.
  pub pick_open : (s : ℕ) → bit_at s p.atom ≡ 0 → meets s t ≡ false
  pick_open s z = meets_of s t (by_atom (λ i. bit_at s i + bit_at t i ≤ 1) (omega (arith, t_same)) (λ i o. omega (arith, o, bit_le s i)))

  module _ (s s2 : ℕ) (e : s2 ≡ union s t) where
    joined_more : bit_at s p.atom ≡ 0 → s < s2
    joined_more z = bit_order p.atom s s2 (λ i l. omega (arith, union_bits s t s2 e i)) (omega (arith, union_bits s t s2 e p.atom, t_same))

    -- What held of both bits elsewhere, and of s2 at the atom, holds of s2.
    joined_apart : (r : ℕ) → bit_at r p.atom ≡ 0 → Apart s r → Apart s2 r
    joined_apart r z f = by_atom (λ i. bit_at s2 i + bit_at r i ≤ 1) (omega (arith, bit_le s2 p.atom)) (λ i o. omega (arith, union_bits s t s2 e i, f i))

    joined_within : (m : ℕ) → bit_at m p.atom ≡ 1 → Within s m → Within s2 m
    joined_within m z f = by_atom (λ i. bit_at s2 i ≤ bit_at m i) (omega (arith, bit_le s2 p.atom)) (λ i o. omega (arith, union_bits s t s2 e i, f i))

-- ---- the two sides of a decision

module _ (P : ℕ → Type 0) (p q : Partial) (t : ℕ) (c : Cut P p q t) where
  model_up : (m : ℕ) → Model P (num p.has) (num p.lacks) m → Extends (num q.has) (num q.lacks) m
  model_up m w = c.grown.keeps m w.extends w.holds

  model_down : (m y2 x2 : ℕ) → Within (num q.has) y2 → Within (num q.lacks) x2 → Model P y2 x2 m → Model P (num p.has) (num p.lacks) m
  model_down m y2 x2 hy hx w = record {
    below = w.below;
    extends = record {
      includes = λ i. omega (arith, c.grown.more_has i, hy i, w.extends.includes i);
      avoids = λ i. omega (arith, c.grown.more_lacks i, hx i, w.extends.avoids i);
    };
    holds = w.holds;
  }

  -- False first: the atom joins what is lacked.
  module _ (q0 : Partial) (eq : PartialIs q0 (num q.has) (union (num q.lacks) t)) where
    q0_has : (i : ℕ) → bit_at (num q0.has) i ≡ bit_at (num q.has) i
    q0_has i = ap (λ (z : ℕ). bit_at z i) eq.has_is

    q0_lacks : (i : ℕ) → bit_at (num q0.lacks) i ≡ max (bit_at (num q.lacks) i) (bit_at t i)
    q0_lacks = union_bits (num q.lacks) t (num q0.lacks) eq.lacks_is

    pub false_room : num p.has + num p.lacks < num q0.has + num q0.lacks
    false_room = omega (
      arith,
      bits_le (num p.has) (num q.has) c.grown.more_has,
      bits_le (num p.lacks) (num q.lacks) c.grown.more_lacks,
      eq.has_is,
      joined_more _ _ t c.pick (num q.lacks) (num q0.lacks) eq.lacks_is c.pick.open_lacks,
    )

    -- A model without the atom is one of the false side.
    false_model : (m : ℕ) → Model P (num p.has) (num p.lacks) m → bit_at m c.pick.atom ≡ 0 → Model P (num q0.has) (num q0.lacks) m
    false_model m w z = record {
      below = w.below;
      extends = record {
        includes = λ i. omega (arith, q0_has i, (model_up m w).includes i);
        avoids = joined_apart _ _ t c.pick (num q.lacks) (num q0.lacks) eq.lacks_is m z (model_up m w).avoids;
      };
      holds = w.holds;
    }

    -- A model without the atom is smaller than one with it.
    pub false_least : (s : ℕ) → Smallest P (num q0.has) (num q0.lacks) s → Smallest P (num p.has) (num p.lacks) s
    false_least s w = record { member = model_down s _ _ (λ i. omega (arith, q0_has i)) (λ i. omega (arith, q0_lacks i)) w.member; least = at }
      where
        at : (k : ℕ) → Model P (num p.has) (num p.lacks) k → s ≤ k
        at k v = elim (dec_lt 0 (bit_at k c.pick.atom)) [
          | no z ↦ w.least k (false_model k v (omega arith))
          | yes z ↦ le_of_lt (bit_order c.pick.atom s k above
              (omega (arith, w.member.extends.avoids c.pick.atom, q0_lacks c.pick.atom, t_same _ _ t c.pick)))
        ]
          where
            above : (j : ℕ) → c.pick.atom < j → bit_at s j ≤ bit_at k j
            above j l = elim (dec_lt j limit) [
              | yes h ↦ omega (
                arith,
                c.pick.above j l h,
                q0_has j,
                q0_lacks j,
                w.member.extends.includes j,
                w.member.extends.avoids j,
                (model_up k v).includes j,
                (model_up k v).avoids j,
                bit_le s j,
              )
              | no h ↦ omega (arith, bit_past limit s j w.member.below (omega arith))
            ]

    -- Where the false side has no model, every model has the atom.
    pub false_none : NoModel P q0 → (m : ℕ) → Model P (num p.has) (num p.lacks) m → bit_at m c.pick.atom ≡ 1
    false_none f m v = elim (dec_lt 0 (bit_at m c.pick.atom)) [
      | yes z ↦ omega (arith, bit_le m c.pick.atom)
      | no z ↦ absurd (f m (false_model m v (omega arith)))
    ]

  -- Then true, where every model has the atom: it joins what is had.
  module _ (q1 : Partial) (eq : PartialIs q1 (union (num q.has) t) (num q.lacks)) where
    q1_has : (i : ℕ) → bit_at (num q1.has) i ≡ max (bit_at (num q.has) i) (bit_at t i)
    q1_has = union_bits (num q.has) t (num q1.has) eq.has_is

    q1_lacks : (i : ℕ) → bit_at (num q1.lacks) i ≡ bit_at (num q.lacks) i
    q1_lacks i = ap (λ (z : ℕ). bit_at z i) eq.lacks_is

    pub true_room : num p.has + num p.lacks < num q1.has + num q1.lacks
    true_room = omega (
      arith,
      bits_le (num p.has) (num q.has) c.grown.more_has,
      bits_le (num p.lacks) (num q.lacks) c.grown.more_lacks,
      eq.lacks_is,
      joined_more _ _ t c.pick (num q.has) (num q1.has) eq.has_is c.pick.open_has,
    )

    module _ (always : (m : ℕ) → Model P (num p.has) (num p.lacks) m → bit_at m c.pick.atom ≡ 1) where
      true_model : (m : ℕ) → Model P (num p.has) (num p.lacks) m → Model P (num q1.has) (num q1.lacks) m
      true_model m w = record {
        below = w.below;
        extends = record {
          includes = joined_within _ _ t c.pick (num q.has) (num q1.has) eq.has_is m (always m w) (model_up m w).includes;
          avoids = λ i. omega (arith, q1_lacks i, (model_up m w).avoids i);
        };
        holds = w.holds;
      }

      true_least : (s : ℕ) → Smallest P (num q1.has) (num q1.lacks) s → Smallest P (num p.has) (num p.lacks) s
      true_least s w = record {
        member = model_down s _ _ (λ i. omega (arith, q1_has i)) (λ i. omega (arith, q1_lacks i)) w.member;
        least = λ k v. w.least k (true_model k v);
      }

      -- What the true side answers is then the answer, with the conflicts that the false side left.
      pub true_answers : (a b : ℕ) → (a ≡ no_limit → b ≡ no_limit) → (f : Found) → Answers P q1 b f → Answers P p a f
      true_answers a b l (Least s) w = true_least (num s) w
      true_answers a b l (Blocked r) w = (λ m v. w.0 m (true_model m v), λ e. w.1 (l e))
      true_answers a b l GaveUp w = λ e. w (l e)

-- ---- the same answer of two tables

module _ (P Q : ℕ → Type 0) (to : (m : ℕ) → P m → Q m) (from : (m : ℕ) → Q m → P m) where
  model_same : (y x m : ℕ) → Model P y x m → Model Q y x m
  model_same y x m w = record { below = w.below; extends = w.extends; holds = to m w.holds }

  model_back : (y x m : ℕ) → Model Q y x m → Model P y x m
  model_back y x m w = record { below = w.below; extends = w.extends; holds = from m w.holds }

  pub told_same : (p : Partial) (smallest : Bool) (a : Option AtomSet) → Told P p smallest a → Told Q p smallest a
  told_same p smallest None w = λ m v. w m (model_back _ _ m v)
  told_same p true (Some s) w = record { member = model_same _ _ _ w.member; least = λ k v. w.least k (model_back _ _ k v) }
  told_same p false (Some s) w = model_same _ _ _ w

module _ (P : ℕ → Type 0) (p : Partial) where
  -- The smallest model is one.
  pub settles_told : (smallest : Bool) (a : Option AtomSet) → Settles P p a → Told P p smallest a
  settles_told smallest None w = w
  settles_told true (Some s) w = w
  settles_told false (Some s) w = w.member

  pub model_told : (smallest : Bool) → smallest ≡ false → (s : AtomSet) → Model P (num p.has) (num p.lacks) (num s) → Told P p smallest (Some s)
  model_told smallest e s w = subst (λ (b : Bool). Told P p b (Some s)) (sym e) w
