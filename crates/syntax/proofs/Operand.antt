-- The operands that a reader function reads by themselves: leaves, `~` with its operand, and formulas in parentheses.
use mathlib.Core.List.{List, ◌∷◌}
use mathlib.Core.Path.{◌≡◌, sym, ◌∙◌, ap, subst}
use Prim.Native.Nat.{ℕ, ◌+◌, ◌≤◌, ◌<◌}
use native.Mathlib.Omega.{arith}
use lib.ListN.{length}
use Rattle.std.specs.Prelude.{Option, Some, None}
use Rattle.ipl.specs.Formula.{Formula}
use Rattle.syntax.specs.Class.{Class, foreign, closing, tilde, opening, nought, lowercase}
use Rattle.syntax.specs.Code.{decode}
use Rattle.syntax.specs.Grammar.{negation, equivalence}
use Rattle.syntax.specs.Nodes.{Implies, Entry, Named, with_entry, with_formula, connected}
use Rattle.syntax.specs.Refusal.{most_names}
use Rattle.syntax.specs.Parts.{held, room}
use Rattle.syntax.specs.Table.{Holds, Names, with_negation}
use Rattle.syntax.specs.Descent.{rest, PastSpaces, NextToken, Stands, height, Exceeds, by_rows, by_height, Asks, Gives, LeafRead}
use Rattle.syntax.specs.declared.Parts.{Parts}
use Rattle.syntax.specs.declared.bytes.Token.{Token}
use Rattle.syntax.specs.declared.descent.Operand.{Operand}
use Rattle.syntax.proofs.Position.{token_is}
use Rattle.syntax.proofs.Names.{taller}
use Rattle.syntax.proofs.Derivations.{Single, letter, falsum, tilded, enclosed, single}
use Rattle.syntax.proofs.Joined.{connected_joins, left_exceeds}

module _ (s : List ℕ) (at : ℕ) (p : Parts) (d : ℕ) where
  -- The parts of every operand that stands there are too many.
  abbrev TooLarge : Type 0
  TooLarge = (f : Formula) (z : List Class) → Stands negation (rest s at) f z → Exceeds (held p) d f

  module _ (t : Token) (next : NextToken s at t) where
    -- A leaf, by its entry.
    module _ (e : Entry) (leaf : (f : Formula) (z : List Class) → Single (rest s at) f z → (with_formula (held p) f ≡ with_entry (held p) e) × (rest s t.next ≡ z)) where
      pub leaf_gives : (decode t.class ≡ foreign → ⊥) → (q : Parts) (r : Option Operand) → LeafRead s t.next p e q r → Gives negation s at p d q r
      leaf_gives some q None full = λ f z i. by_rows (subst (λ (m : Named). room < length m.table) (sym (leaf f z (single (rest s at) f z i)).0) full)
      leaf_gives some q (Some o) x = (
        omega (arith, next.forward some, x.0.forward),
        x.0.inside,
        λ f z i.
            let w = leaf f z (single (rest s at) f z i) in
            record { behind_is = x.0.same ∙ w.1; holds = subst (λ (m : Named). Holds m q o.root) (sym w.0) x.1 },
      )

    pub letter_leaf : (k : ℕ) → decode t.class ≡ lowercase k → (f : Formula) (z : List Class) → Single (rest s at) f z
        → (with_formula (held p) f ≡ with_entry (held p) (Entry.letter k)) × (rest s t.next ≡ z)
    unfolding with_formula
    letter_leaf k c f z (letter j e l) =
        let w = token_is s at t next (lowercase j) _ l in
        let same : j ≡ k = cc in
        (ap (with_formula (held p)) e ∙ ap (λ (k : ℕ). with_entry (held p) (Entry.letter k)) same, w.1)
    letter_leaf k c f z (falsum e l) = let w = token_is s at t next nought _ l in cc
    letter_leaf k c f z (tilded g m e l x) = let w = token_is s at t next tilde _ l in cc
    letter_leaf k c f z (enclosed m l x) = let w = token_is s at t next opening _ l in cc

    pub falsum_leaf : ((k : ℕ) → decode t.class ≡ lowercase k → ⊥) → (decode t.class ≡ tilde → ⊥) → (decode t.class ≡ opening → ⊥) → (f : Formula) (z : List Class)
        → Single (rest s at) f z → (with_formula (held p) f ≡ with_entry (held p) Entry.falsum) × (rest s t.next ≡ z)
    unfolding with_formula
    falsum_leaf no-letter no-not no-paren f z (letter j e l) = absurd (no-letter j (token_is s at t next (lowercase j) _ l).0)
    falsum_leaf no-letter no-not no-paren f z (falsum e l) = (ap (with_formula (held p)) e, (token_is s at t next nought _ l).1)
    falsum_leaf no-letter no-not no-paren f z (tilded g m e l x) = absurd (no-not (token_is s at t next tilde _ l).0)
    falsum_leaf no-letter no-not no-paren f z (enclosed m l x) = absurd (no-paren (token_is s at t next opening _ l).0)

    -- An operand begins with a token.
    pub begun : Asks negation s at p d → decode t.class ≡ foreign → ⊥
    begun asked e = go (single (rest s at) asked.formula asked.behind asked.stands)
      where
        go : Single (rest s at) asked.formula asked.behind → ⊥
        go (letter j q l) = let w = token_is s at t next (lowercase j) _ l in cc
        go (falsum q l) = let w = token_is s at t next nought _ l in cc
        go (tilded g m q l x) = let w = token_is s at t next tilde _ l in cc
        go (enclosed m l x) = let w = token_is s at t next opening _ l in cc

    -- `~` and an operand.
    module _ (asked : Asks negation s at p d) (i : decode t.class ≡ tilde) where
      record Negated (f : Formula) (z : List Class) : Type 0 where
        operand : Formula
        is : f ≡ connected Implies operand Formula.falsum
        stands : Stands negation (rest s t.next) operand z

      negated : (f : Formula) (z : List Class) → Stands negation (rest s at) f z → Negated f z
      negated f z x = go (single (rest s at) f z x)
        where
          go : Single (rest s at) f z → Negated f z
          go (letter k e l) = let w = token_is s at t next (lowercase k) _ l in cc
          go (falsum e l) = let w = token_is s at t next nought _ l in cc
          go (tilded g m e l y) = record { operand = g; is = e; stands = rw (token_is s at t next tilde _ l).1 y }
          go (enclosed m l y) = let w = token_is s at t next opening _ l in cc

      pub asks_not : d + 1 ≤ most_names → Asks negation s t.next p (d + 1)
      asks_not few =
          let x = negated asked.formula asked.behind asked.stands in
          record { formula = x.operand; behind = asked.behind; stands = x.stands; inside = next.inside; ordered = asked.ordered; once = asked.once; near = few }

      pub deep_not : d ≡ most_names → TooLarge
      deep_not full f z x =
          let w = negated f z x in
          by_height (omega (arith, ap height w.is, (taller Implies w.operand Formula.falsum).0))

      pub not_large : ((f : Formula) (z : List Class) → Stands negation (rest s t.next) f z → Exceeds (held p) (d + 1) f) → TooLarge
      not_large large f z x =
          let w = negated f z x in
          subst (Exceeds (held p) d) (sym w.is)
          (left_exceeds (connected_joins Implies) (held p) asked.ordered asked.once d w.operand Formula.falsum (d + 1) (omega arith) (large w.operand z w.stands))

      module _ (q : Parts) (o : Operand) (y : Gives negation s t.next p (d + 1) q (Some o)) (v : Parts) where
        not_named : (f : Formula) (z : List Class) → Stands negation (rest s at) f z → (m : Option ℕ) → Names (with_negation (held q) o.root) v m → Names (with_formula (held p) f) v m
        unfolding with_formula with_negation connected
        not_named f z x m named =
            let w = negated f z x in
            let h = (y.2 w.operand z w.stands).holds in
            subst (λ (g : Formula). Names (with_formula (held p) g) v m) (sym w.is) (rw (h.table, h.root_is) at named)

        pub not_full : Names (with_negation (held q) o.root) v None → TooLarge
        not_full named f z x = by_rows (not_named f z x None named)

        pub not_gives : (root : ℕ) → Names (with_negation (held q) o.root) v (Some root) → Gives negation s at p d v (Some (record { root = root; next = o.next }))
        not_gives root named = (
          omega (arith, next.onward, y.0),
          y.1,
          λ f z x.
              let w = negated f z x in
              record { behind_is = (y.2 w.operand z w.stands).behind_is; holds = not_named f z x (Some root) named },
        )

    -- A formula in parentheses.
    module _ (i : decode t.class ≡ opening) where
      inner : (f : Formula) (z : List Class) → Stands negation (rest s at) f z → Stands equivalence (rest s t.next) f (closing ∷ z)
      inner f z x = go (single (rest s at) f z x)
        where
          go : Single (rest s at) f z → Stands equivalence (rest s t.next) f (closing ∷ z)
          go (letter k e l) = let w = token_is s at t next (lowercase k) _ l in cc
          go (falsum e l) = let w = token_is s at t next nought _ l in cc
          go (tilded g m e l y) = let w = token_is s at t next tilde _ l in cc
          go (enclosed m l y) = rw (token_is s at t next opening _ l).1 y

      pub asks_inner : Asks negation s at p d → Asks equivalence s t.next p d
      asks_inner asked = record {
        formula = asked.formula;
        behind = closing ∷ asked.behind;
        stands = inner asked.formula asked.behind asked.stands;
        inside = next.inside;
        ordered = asked.ordered;
        once = asked.once;
        near = asked.near;
      }

      pub inner_large : ((f : Formula) (z : List Class) → Stands equivalence (rest s t.next) f z → Exceeds (held p) d f) → TooLarge
      inner_large large f z x = large f (closing ∷ z) (inner f z x)

      pub inner_gives : (q : Parts) (o : Operand) → Gives equivalence s t.next p d q (Some o) → (c : Token) → NextToken s o.next c → (n : ℕ) → PastSpaces s c.next n
          → Gives negation s at p d q (Some (record { root = o.root; next = n }))
      inner_gives q o y c close n past = (
        omega (arith, next.onward, y.0, close.onward, past.forward),
        past.inside,
        λ f z x.
            let v = y.2 f (closing ∷ z) (inner f z x) in
            record { behind_is = past.same ∙ (token_is s o.next c close closing z v.behind_is).1; holds = v.holds },
      )
