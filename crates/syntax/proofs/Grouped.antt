-- The levels with operators between operands: one law for each way in which a reader function goes on after an operand.
use mathlib.Core.List.{List}
use mathlib.Core.Path.{◌≡◌, sym, ◌∙◌, ap, subst}
use Prim.Native.Nat.{ℕ, ◌+◌, ◌≤◌, ◌<◌}
use native.Mathlib.Omega.{arith}
use lib.ListN.{length}
use Rattle.std.specs.Prelude.{Option, Some, None}
use Rattle.ipl.specs.Formula.{Formula, iff}
use Rattle.syntax.specs.Class.{Class, ampersand, bar, greater, equals}
use Rattle.syntax.specs.Grammar.{Level, negation, conjunction, disjunction, implication, equivalence}
use Rattle.syntax.specs.Nodes.{Connective, And, Or, Implies, Entry, Named, with_formula, connected}
use Rattle.syntax.specs.Refusal.{most_names}
use Rattle.syntax.specs.Parts.{held}
use Rattle.syntax.specs.Table.{Holds, Names, with_compound, with_equivalence}
use Rattle.syntax.specs.Descent.{rest, NotNext, Comes, Stops, Stands, height, Exceeds, by_rows, by_height, Asks, Gives}
use Rattle.syntax.specs.declared.Parts.{Parts}
use Rattle.syntax.specs.declared.descent.Operand.{Operand}
use Rattle.syntax.proofs.Once.{formula_once}
use Rattle.syntax.proofs.Stands.{formula_stands}
use Rattle.syntax.proofs.Derivations.{Run, done, more, First, run_goes_on, run_ends, first_and, first_or}
use Rattle.syntax.proofs.Derivations.{Then, alone, both, Leads, then_goes_on, then_ends, leads_implies, leads_equal}
use Rattle.syntax.proofs.Joined.{Joins, connected_joins, iff_joins, left_exceeds, then_exceeds, joined_named}

-- ---- the levels

-- Level k: operands of level a, with the operator between them.
pub record LeftGrouped (k a : Level) (op : Class) (c : Connective) : Type 0 where
  first : (l : List Class) (f : Formula) (z : List Class) → Stands k l f z → First a op c l f z
  stop : (z : List Class) → Stops k z → NotNext op z

pub conjunctions : LeftGrouped conjunction negation ampersand And
conjunctions = record { first = first_and; stop = λ z x. x }

pub disjunctions : LeftGrouped disjunction conjunction bar Or
disjunctions = record { first = first_or; stop = λ z x. x.1 }

-- Level k: an operand of level a, alone or with the operator and one of level b.
pub record RightGrouped (k a b : Level) (op : Class) (join : Formula → Formula → Formula) (W : ℕ → List Entry → ℕ → Named) : Type 0 where
  joins : Joins join W
  leads : (l : List Class) (f : Formula) (z : List Class) → Stands k l f z → Leads a b op join l f z
  stop : (z : List Class) → Stops k z → NotNext op z

pub implications : RightGrouped implication disjunction implication greater (connected Implies) (with_compound Implies)
implications = record { joins = connected_joins Implies; leads = leads_implies; stop = λ z x. x.2 }

pub equivalences : RightGrouped equivalence implication implication equals iff with_equivalence
equivalences = record { joins = iff_joins; leads = leads_equal; stop = λ z x. x.3 }

-- ---- the next operand

module _ (s : List ℕ) (at : ℕ) (p : Parts) (d : ℕ) where
  -- The parts of every operand that stands there are too many.
  abbrev TooLarge : Level → Type 0
  TooLarge k = (f : Formula) (z : List Class) → Stands k (rest s at) f z → Exceeds (held p) d f

  -- After one that was read, the next is asked for with its table.
  asks_next : (k b : Level) → Asks k s at p d → (g : Formula) (q : Parts) (a : ℕ) → Holds (with_formula (held p) g) q a → (n : ℕ) → n ≤ length s
      → (h : Formula) (z : List Class) → Stands b (rest s n) h z → (e : ℕ) → e ≤ most_names → Asks b s n q e
  asks_next k b asked g q a x n inside h z y e few = record {
    formula = h;
    behind = z;
    stands = y;
    inside = inside;
    ordered = rw x.table (formula_stands g (held p) asked.ordered).ordered;
    once = rw x.table (formula_once g (held p) asked.once);
    near = few;
  }

  asks_first : (k a : Level) → Asks k s at p d → (g : Formula) (z : List Class) → Stands a (rest s at) g z → Asks a s at p d
  asks_first k a asked g z x =
      record { formula = g; behind = z; stands = x; inside = asked.inside; ordered = asked.ordered; once = asked.once; near = asked.near }

  -- ---- operators that group to the left

  module _ {k a : Level} {op : Class} {c : Connective} (G : LeftGrouped k a op c) where
    -- What was read so far continues to the whole.
    pub record Reached (q : Parts) (o : Operand) : Type 0 where
      pub forward : at < o.next
      pub inside : o.next ≤ length s
      read : (f : Formula) (z : List Class) → Stands k (rest s at) f z → (g : Formula) × Run a op c g (rest s o.next) f z × Holds (with_formula (held p) g) q o.root

    pub asks_one : Asks k s at p d → Asks a s at p d
    asks_one asked = let x = G.first (rest s at) asked.formula asked.behind asked.stands in asks_first k a asked x.operand x.next x.stands

    module _ (asked : Asks k s at p d) where
      run_exceeds : {g f : Formula} {m z : List Class} → Run a op c g m f z → Exceeds (held p) d g → Exceeds (held p) d f
      run_exceeds done e = e
      run_exceeds (more {g} {h} x r) e = run_exceeds r (left_exceeds (connected_joins c) (held p) asked.ordered asked.once d g h d (omega arith) e)

      pub one_exceeds : TooLarge a → TooLarge k
      one_exceeds y f z x = let w = G.first (rest s at) f z x in run_exceeds w.run (y w.operand w.next w.stands)

      pub one_reached : (q : Parts) (o : Operand) → Gives a s at p d q (Some o) → Reached q o
      one_reached q o y = record {
        forward = y.0;
        inside = y.1;
        read = λ f z x.
            let w = G.first (rest s at) f z x in
            let v = y.2 w.operand w.next w.stands in
            (w.operand, subst (λ (m : List Class). Run a op c w.operand m f z) (sym v.behind_is) w.run, v.holds);
      }

      -- An operator and an operand more.
      module _ (q : Parts) (o : Operand) (was : Reached q o) (n : ℕ) (comes : Comes s o.next op (Some n)) where
        record Next (f : Formula) (z : List Class) : Type 0 where
          left : Formula
          right : Formula
          behind : List Class
          stands : Stands a (rest s n) right behind
          run : Run a op c (connected c left right) behind f z
          holds : Holds (with_formula (held p) left) q o.root

        next : (f : Formula) (z : List Class) → Stands k (rest s at) f z → Next f z
        next f z x =
            let v = was.read f z x in
            let w = run_goes_on a op c v.1 (G.stop z x.stops) (rest s n) comes.0 in
            record { left = v.0; right = w.0; behind = w.1; stands = w.2; run = w.3; holds = v.2 }

        pub asks_more : Asks a s n q d
        asks_more =
            let x = next asked.formula asked.behind asked.stands in
            asks_next k a asked x.left q o.root x.holds n comes.2 x.right x.behind x.stands d asked.near

        pub more_exceeds : ((f : Formula) (z : List Class) → Stands a (rest s n) f z → Exceeds (held q) d f) → TooLarge k
        more_exceeds y f z x =
            let w = next f z x in
            run_exceeds w.run
            (then_exceeds (connected_joins c) (held p) asked.ordered asked.once d w.left w.right q o.root w.holds d (omega arith) (y w.right w.behind w.stands))

        module _ (u : Parts) (r : Operand) (y : Gives a s n q d u (Some r)) (v : Parts) where
          whole_named : (f : Formula) (z : List Class) (x : Stands k (rest s at) f z) (m : Option ℕ) → Names (with_compound c o.root (held u) r.root) v m
              → Names (with_formula (held p) (connected c (next f z x).left (next f z x).right)) v m
          whole_named f z x m named =
              let w = next f z x in
              joined_named (connected_joins c) (held p) asked.ordered asked.once d w.left w.right q o.root w.holds u r.root (y.2 w.right w.behind w.stands).holds v m named

          pub more_full : Names (with_compound c o.root (held u) r.root) v None → TooLarge k
          more_full named f z x = run_exceeds (next f z x).run (by_rows (whole_named f z x None named))

          pub more_reached : (root : ℕ) → Names (with_compound c o.root (held u) r.root) v (Some root) → Reached v (record { root = root; next = r.next })
          more_reached root named = record {
            forward = omega (arith, was.forward, comes.1, y.0);
            inside = y.1;
            read = λ f z x.
                let w = next f z x in (
                  connected c w.left w.right,
                  subst (λ (m : List Class). Run a op c (connected c w.left w.right) m f z) (sym (y.2 w.right w.behind w.stands).behind_is) w.run,
                  whole_named f z x (Some root) named,
                );
          }

      -- No operator more.
      pub reached_end : (q : Parts) (o : Operand) → Reached q o → NotNext op (rest s o.next) → Gives k s at p d q (Some o)
      reached_end q o was ends = (
        was.forward,
        was.inside,
        λ f z x.
            let v = was.read f z x in
            let w = run_ends a op c v.1 ends in
            record { behind_is = w.1; holds = subst (λ (g : Formula). Holds (with_formula (held p) g) q o.root) w.0 v.2 },
      )

  -- ---- operators with one operand to the right

  module _ {k a b : Level} {op : Class} {join : Formula → Formula → Formula} {W : ℕ → List Entry → ℕ → Named} (G : RightGrouped k a b op join W) where
    pub asks_left : Asks k s at p d → Asks a s at p d
    asks_left asked = let x = G.leads (rest s at) asked.formula asked.behind asked.stands in asks_first k a asked x.operand x.next x.stands

    module _ (asked : Asks k s at p d) where
      first_exceeds : {g f : Formula} {m z : List Class} → Then b op join g m f z → Exceeds (held p) d g → Exceeds (held p) d f
      first_exceeds (alone e q) x = subst (Exceeds (held p) d) e x
      first_exceeds {g} (both h n q e i) x = subst (Exceeds (held p) d) (sym e) (left_exceeds G.joins (held p) asked.ordered asked.once d g h d (omega arith) x)

      pub left_large : TooLarge a → TooLarge k
      left_large y f z x = let w = G.leads (rest s at) f z x in first_exceeds w.then (y w.operand w.next w.stands)

      module _ (q : Parts) (o : Operand) (y : Gives a s at p d q (Some o)) where
        -- The left operand is the whole.
        pub left_only : NotNext op (rest s o.next) → Gives k s at p d q (Some o)
        left_only ends = (
          y.0,
          y.1,
          λ f z x.
              let w = G.leads (rest s at) f z x in
              let v = y.2 w.operand w.next w.stands in
              let u = then_ends b op join w.then (subst (NotNext op) v.behind_is ends) in
              record { behind_is = v.behind_is ∙ u.1; holds = subst (λ (g : Formula). Holds (with_formula (held p) g) q o.root) u.0 v.holds },
        )

        -- The operator comes.
        module _ (n : ℕ) (comes : Comes s o.next op (Some n)) where
          -- What stands to its right.
          record Right (f : Formula) (z : List Class) : Type 0 where
            first : Formula
            second : Formula
            is : f ≡ join first second
            holds : Holds (with_formula (held p) first) q o.root
            stands : Stands b (rest s n) second z

          right_of : (f : Formula) (z : List Class) → Stands k (rest s at) f z → Right f z
          right_of f z x =
              let w = G.leads (rest s at) f z x in
              let v = y.2 w.operand w.next w.stands in
              let u = then_goes_on b op join w.then (G.stop z x.stops) (rest s n) (sym v.behind_is ∙ comes.0) in
              record { first = w.operand; second = u.0; is = u.1; holds = v.holds; stands = u.2 }

          pub asks_right : (e : ℕ) → e ≤ most_names → Asks b s n q e
          asks_right e few =
              let x = right_of asked.formula asked.behind asked.stands in
              asks_next k b asked x.first q o.root x.holds n comes.2 x.second asked.behind x.stands e few

          pub deep_right : d ≡ most_names → TooLarge k
          deep_right full f z x =
              let w = right_of f z x in
              by_height (omega (arith, ap height w.is, (G.joins.tall w.first w.second).0))

          pub right_large : (e : ℕ) → e ≤ d + 1 → ((f : Formula) (z : List Class) → Stands b (rest s n) f z → Exceeds (held q) e f) → TooLarge k
          right_large e few large f z x =
              let w = right_of f z x in
              subst (Exceeds (held p) d) (sym w.is)
              (then_exceeds G.joins (held p) asked.ordered asked.once d w.first w.second q o.root w.holds e few (large w.second z w.stands))

          module _ (e : ℕ) (u : Parts) (r : Operand) (i : Gives b s n q e u (Some r)) (v : Parts) where
            right_named : (f : Formula) (z : List Class) → Stands k (rest s at) f z → (m : Option ℕ) → Names (W o.root (held u) r.root) v m → Names (with_formula (held p) f) v m
            right_named f z x m named =
                let w = right_of f z x in
                subst (λ (g : Formula). Names (with_formula (held p) g) v m) (sym w.is)
                (joined_named G.joins (held p) asked.ordered asked.once d w.first w.second q o.root w.holds u r.root (i.2 w.second z w.stands).holds v m named)

            pub joined_full : Names (W o.root (held u) r.root) v None → TooLarge k
            joined_full named f z x = by_rows (right_named f z x None named)

            pub joined : (root : ℕ) → Names (W o.root (held u) r.root) v (Some root) → Gives k s at p d v (Some (record { root = root; next = r.next }))
            joined root named = (
              omega (arith, y.0, comes.1, i.0),
              i.1,
              λ f z x. record { behind_is = (i.2 (right_of f z x).second z (right_of f z x).stands).behind_is; holds = right_named f z x (Some root) named },
            )
