-- From what the passes and the descent find to the reader's answer.
use mathlib.Core.Bool.{true, false, false≢true}
use mathlib.Core.List.{List, [], append-nil}
use mathlib.Core.Logic.{inl, inr}
use mathlib.Core.Path.{◌≡◌, sym, ◌∙◌, ap, subst}
use Prim.Native.Nat.{ℕ, ◌≤◌, ◌<◌}
use native.Mathlib.Omega.{arith}
use lib.ListN.{length}
use borrow.Author.Tests.{eqb-false}
use Rattle.std.specs.Bool.{◌==◌}
use Rattle.std.specs.Prelude.{Some, None}
use Rattle.ipl.specs.Formula.{Formula}
use Rattle.syntax.specs.Class.{tokens}
use Rattle.syntax.specs.Grammar.{equivalence, Reads}
use Rattle.syntax.specs.Nodes.{Entry, Named, with_formula, nodes, named, Once}
use Rattle.syntax.specs.Refusal.{most_bytes, BadLength, TooDeep, Longest, most_names, Refused, line_3, line_4}
use Rattle.syntax.specs.Scan.{ends, Scanned, scanned}
use Rattle.syntax.specs.Parts.{held, Empty}
use Rattle.syntax.specs.Table.{Holds}
use Rattle.syntax.specs.Descent.{rest, Stands, Exceeds, Asks, Gives}
use Rattle.syntax.specs.Answer.{Read}
use Rattle.syntax.specs.declared.Parts.{Parts}
use Rattle.syntax.specs.declared.descent.Operand.{Operand}
use Rattle.syntax.proofs.Beginning.{formula_scanned, scanned_formula, longest}
use Rattle.syntax.proofs.Once.{none_once, table_once}
use Rattle.syntax.proofs.Stands.{none_ordered}
use Rattle.syntax.proofs.Names.{exceeds_large}
use Rattle.syntax.proofs.Held.{sound}

module _ (s : List ℕ) where
  -- The descent starts at the text's beginning.
  all_stands : (f : Formula) → Reads s f → Stands equivalence (rest s 0) f []
  all_stands f r = record { text = tokens s; parsed = r; split = sym (append-nil (tokens s)); stops = (λ m e. cc, λ m e. cc, λ m e. cc, λ m e. cc) }

  pub start_asks : ends (scanned s) ≡ true → (p : Parts) → Empty p → Asks equivalence s 0 p 0
  start_asks w p e =
      let x = scanned_formula s w in
      record {
        formula = x.0;
        behind = [];
        stands = all_stands x.0 x.1;
        inside = omega arith;
        ordered = rw e none_ordered;
        once = rw e none_once;
        near = omega arith;
      }

  -- Line 1.
  pub length_right : false ≡ (length s == 0) → length s ≤ most_bytes → BadLength s → ⊥
  length_right a b (inl e) = eqb-false _ _ (sym a) e
  length_right a b (inr h) = omega arith

  module _ (l : BadLength s → ⊥) where
    module _ (f : TooDeep s → ⊥) where
      -- Line 3.
      pub refused_fault : (k : ℕ) → Scanned s (Some k) → Refused s 3 k
      refused_fault k a = line_3 l f (λ y. false≢true (sym a.0 ∙ formula_scanned s y)) (subst (Longest s) (sym a.1) (longest s))

      -- The descent from a table without rows.
      module _ (fits : ends (scanned s) ≡ true) (p : Parts) (empty : Empty p) (q : Parts) where
        abbrev formula : Formula
        formula = (scanned_formula s fits).0

        reads : Reads s formula
        reads = (scanned_formula s fits).1

        from_none : with_formula (held p) formula ≡ nodes formula
        from_none = unfold nodes in ap (λ (T : List Entry). with_formula T formula) empty

        -- Line 4: by the rows, or by what stands within one another; by the names.
        pub refused_large : Gives equivalence s 0 p 0 q None → Refused s 4 0
        refused_large y =
            line_4 l f reads (exceeds_large formula (subst (λ (T : List Entry). Exceeds T 0 formula) empty (y formula [] (all_stands formula reads))))

        module _ (o : Operand) (y : Gives equivalence s 0 p 0 q (Some o)) where
          whole : Holds (nodes formula) q o.root
          whole = subst (λ (n : Named). Holds n q o.root) from_none (y.2 formula [] (all_stands formula reads)).holds

          pub parts_once : Once (held q)
          parts_once = rw whole.table (table_once formula)

          module _ (n : ℕ) (m : n ≡ named (held q)) where
            size : n ≡ named (nodes formula).table
            size = m ∙ ap named whole.table

            pub refused_many : most_names < n → Refused s 4 0
            refused_many h = line_4 l f reads (omega (arith, size))

            pub accepted : n ≤ most_names → Read s o.root q
            accepted h = record {
              formula = formula;
              sound = sound q;
              accepted = record { length_right = l; depth_right = f; reads = reads; size_right = λ z. omega (arith, size) };
              table_is = whole.table;
              root_is = whole.root_is;
            }
