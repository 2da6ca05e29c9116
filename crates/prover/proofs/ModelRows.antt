-- Laws of the table of models that a page found: its rows are looked through and written.
use mathlib.Core.Bool.{Bool, true, false, cond}
use mathlib.Core.List.{List, [], ◌∷◌, ◌++◌}
use mathlib.Core.Option.{none, some, none-ne-some}
use mathlib.Core.Path.{◌≡◌, refl, sym, ap, ◌∙◌}
use Prim.Native.Nat.{ℕ, suc, ◌+◌, ◌<◌}
use native.Mathlib.Omega.{arith}
use lib.ListN.{length, set, drop}
use lib.Seq.{get_or-set_same, get_or-set_other, split_at}
use Rattle.atoms.specs.Sets.{has}
use Rattle.atoms.specs.Words.{row_count, RowSet}
use Rattle.ipl.specs.Lists.{tabulate}
use Rattle.ipl.specs.Page.{Found, earliest}
use Rattle.ipl.proofs.Lists.{tabulate_length, tabulate_at, tabulate_take, tabulate_more}
use Rattle.prover.specs.Page.{model_row, models_of}
use Rattle.prover.specs.declared.paging.Models.{Models}

-- Models that have the goal are passed.
passed : (g : ℕ) (M L : List Found) → earliest g M ≡ none → earliest g (M ++ L) ≡ earliest g L
unfolding earliest
passed g [] L e = refl
passed g (m ∷ M) L e = by_root (passed g M L) (has m.root g) e
  where
    by_root : (earliest g M ≡ none → earliest g (M ++ L) ≡ earliest g L) → (b : Bool) → cond b (earliest g M) (some m.place) ≡ none
        → cond b (earliest g (M ++ L)) (some m.place) ≡ earliest g L
    by_root later true e = later e
    by_root later false e = absurd (none-ne-some m.place (sym e))

module _ (g : ℕ) (row : ℕ → Found) (i : ℕ) (none_before : earliest g (tabulate row i) ≡ none) where
  pub passed_next : has (row i).root g ≡ true → earliest g (tabulate row (i + 1)) ≡ none
  unfolding earliest
  passed_next h =
      ap (earliest g) (tabulate_more row row (row i) i (λ _ _. refl) refl) ∙ passed g (tabulate row i) (row i ∷ []) none_before ∙ rw h

  pub found_here : (n : ℕ) → i < n → has (row i).root g ≡ false → some (row i).place ≡ earliest g (tabulate row n)
  unfolding earliest
  found_here n l h =
      sym (ap (earliest g) (split_at (tabulate row n) i (row i) (rw (tabulate_length row n) l))
      ∙ rw (tabulate_take row n i (omega arith), tabulate_at row (row i) n i l)
      (passed g (tabulate row i) (row i ∷ drop (suc i) (tabulate row n)) none_before ∙ rw h))

-- A row more at the end.
pub models_more : (t : Models) (place root : ℕ) (roots : List ℕ) → t.count < length t.places → t.count < row_count t.roots → RowSet t.roots t.count root roots
    → models_of (record { count = t.count + 1; places = set t.places t.count place; roots = roots }) ≡ models_of t ++ (record { place = place; root = root } ∷ [])
models_more t place root roots l k r =
    tabulate_more (model_row t) (model_row (record { count = t.count + 1; places = set t.places t.count place; roots = roots })) (record { place = place; root = root }) t.count
    (λ i h. row (get_or-set_other t.places t.count i place 0 (λ e. omega arith)) (r.others i (λ e. omega arith)))
    (row (get_or-set_same t.places t.count place 0 l) (r.written k))
  where
    row : {a b c d : ℕ} → a ≡ c → b ≡ d → ◌≡◌ {A = Found} (record { place = a; root = b }) (record { place = c; root = d })
    row p q = λ i. record { place = p i; root = q i }
