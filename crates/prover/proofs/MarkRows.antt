-- Laws of the table of marks: its rows are looked through, kept, written and cut.
use mathlib.Core.Bool.{not, cond}
use mathlib.Core.List.{List, [], ◌∷◌, ◌++◌, map, append-nil}
use mathlib.Core.Path.{◌≡◌, refl, sym, ap, ◌∙◌}
use Prim.Native.Nat.{ℕ, suc, ◌+◌, ◌≤◌, ◌<◌}
use native.Mathlib.Nat.{add-zero}
use native.Mathlib.Omega.{arith}
use lib.Dec.{eqb}
use lib.ListN.{length, set, drop, length-map}
use lib.Seq.{get_or-set_same, get_or-set_other, split_at}
use borrow.Author.Tests.{eq-eqb, ne_eqb}
use Rattle.ipl.specs.Lists.{tabulate}
use Rattle.ipl.specs.Marks.{Mark, others, place_of}
use Rattle.ipl.proofs.Lists.{keep_snoc, tabulate_length, tabulate_at, tabulate_take, tabulate_more}
use Rattle.ipl.proofs.Marks.{place_append}
use Rattle.prover.specs.State.{mark_of, mark_row, marks_of}
use Rattle.prover.specs.declared.Mark as code
use Rattle.prover.specs.declared.Marks.{Marks}

-- ---- the rows up to i

module _ (j : ℕ) (row : ℕ → Mark) (i : ℕ) where
  next : tabulate row (i + 1) ≡ tabulate row i ++ (row i ∷ [])
  next = tabulate_more row row (row i) i (λ _ _. refl) refl

  module _ (none : place_of j (tabulate row i) ≡ i) where
    none_before : place_of j (tabulate row i) ≡ length (tabulate row i)
    none_before = none ∙ sym (tabulate_length row i)

    pub place_next : ((row i).number ≡ j → ⊥) → place_of j (tabulate row (i + 1)) ≡ i + 1
    unfolding place_of
    place_next d =
        ap (place_of j) next ∙ place_append j (tabulate row i) (row i ∷ []) none_before
        ∙ rw (tabulate_length row i, ne_eqb (row i).number j d)

    pub place_found : (n : ℕ) → i < n → (row i).number ≡ j → i ≡ place_of j (tabulate row n)
    unfolding place_of
    place_found n l e =
        sym (ap (place_of j) (split_at (tabulate row n) i (row i) (rw (tabulate_length row n) l))
        ∙ rw (tabulate_take row n i (omega arith), tabulate_at row (row i) n i l)
        (place_append j (tabulate row i) (row i ∷ drop (suc i) (tabulate row n)) none_before ∙ rw (tabulate_length row i, eq-eqb (row i).number j e) (add-zero i)))

-- ---- the rows of other numbers than j

-- The table u holds those of the first i rows of t.
pub record Kept (j : ℕ) (t u : Marks) (i : ℕ) : Type 0 where
  pub inside : i ≤ t.count
  pub few : u.count ≤ i
  pub rows : marks_of u ≡ others j (tabulate (mark_row t) i)

others_next : (j : ℕ) (row : ℕ → Mark) (i : ℕ)
    → others j (tabulate row (i + 1)) ≡ others j (tabulate row i) ++ cond (not (eqb (row i).number j)) (row i ∷ []) []
others_next j row i = ap (others j) (next j row i) ∙ keep_snoc (λ (m : Mark). not (eqb m.number j)) (tabulate row i) (row i)

module _ (j : ℕ) (t u : Marks) (i : ℕ) (h : Kept j t u i) (l : i < t.count) where
  pub row_kept : (v : Marks) → ((mark_row t i).number ≡ j → ⊥) → (marks_of v ≡ marks_of u ++ (mark_row t i ∷ [])) × (v.count ≡ u.count + 1) → Kept j t v (i + 1)
  row_kept v d e = record {
    inside = omega arith;
    few = omega (arith, h.few, e.1);
    rows = e.0 ∙ ap (λ M. M ++ (mark_row t i ∷ [])) h.rows ∙ sym (others_next j (mark_row t) i ∙ rw (ne_eqb (mark_row t i).number j d));
  }

  pub row_passed : (mark_row t i).number ≡ j → Kept j t u (i + 1)
  row_passed e = record {
    inside = omega arith;
    few = omega (arith, h.few);
    rows = h.rows ∙ sym (others_next j (mark_row t) i ∙ rw (eq-eqb (mark_row t i).number j e) (append-nil (others j (tabulate (mark_row t) i))));
  }

-- ---- a row written

-- The length of a table of structs, as it is known of an argument.
pub sized : {A B : Type 0} (f : A → B) (l : List A) (n : ℕ) → length (map f l) ≡ n → length l ≡ n
sized f l n e = sym (length-map l f) ∙ e

pub marks_more : (t : Marks) (m : code.Mark) → t.count < length t.rows
    → marks_of (record { count = t.count + 1; rows = set t.rows t.count m }) ≡ marks_of t ++ (mark_of m ∷ [])
marks_more t m l =
    tabulate_more (mark_row t) (mark_row (record { count = t.count + 1; rows = set t.rows t.count m })) (mark_of m) t.count
    (λ i h. ap mark_of (get_or-set_other t.rows t.count i m _ (λ q. omega arith))) (ap mark_of (get_or-set_same t.rows t.count m _ l))
