-- The rows of the bytes: how many there are, and tables of clauses loaded from them.
use mathlib.Core.Bool.{Bool, true, false}
use mathlib.Core.List.{List, [], ◌∷◌, ◌++◌}
use mathlib.Core.Path.{◌≡◌, refl, sym, ap, ap₂, ◌∙◌}
use Prim.Native.Nat.{ℕ, ◌+◌, ◌*◌, ◌≤◌, ◌<◌}
use native.Mathlib.Numerals.{add-one}
use native.Mathlib.Omega.{arith}
use lib.ListN.{length}
use Rattle.atoms.specs.Words.{row_count, RowSet}
use Rattle.atoms.proofs.Machine.{same_rows}
use Rattle.ipl.specs.Clause.{Flat}
use Rattle.ipl.specs.Lists.{tabulate}
use Rattle.sat.specs.Table.{clauses}
use Rattle.sat.proofs.Table.{clauses_more}
use Rattle.certificate.specs.Format.{set_bytes, flat_bytes, implication_bytes, step_bytes, refutes, rows_of, flat_start}
use Rattle.certificate.specs.Layout.{flat_from, implication_from, step_from, world_from, flats_in, implications_in, steps_in, worlds_in, claim_in}
use Rattle.certificate.specs.Checked.{FlatsLoaded}
use Rattle.ipl.proofs.Lists.{tabulate_length}

pub flats_length : (s : List ℕ) (count : ℕ) → length (flats_in s count) ≡ count
flats_length s count = tabulate_length (λ k. flat_from s (flat_start + flat_bytes * k)) count

pub implications_length : (s : List ℕ) (start count : ℕ) → length (implications_in s start count) ≡ count
implications_length s start count = tabulate_length (λ k. implication_from s (start + implication_bytes * k)) count

pub steps_length : (s : List ℕ) (start count : ℕ) → length (steps_in s start count) ≡ count
steps_length s start count = tabulate_length (λ k. step_from s (start + step_bytes * k)) count

pub worlds_length : (s : List ℕ) (start count : ℕ) → length (worlds_in s start count) ≡ count
worlds_length s start count = tabulate_length (λ k. world_from s (start + set_bytes * k)) count

-- Which claim is read, and how many rows it has.
pub claim_refutes : (s : List ℕ) (at : ℕ) (r : Bool) (R : ℕ) → refutes (claim_in s at r R) ≡ r
unfolding refutes claim_in
claim_refutes s at true R = refl
claim_refutes s at false R = refl

pub claim_rows_lem : (s : List ℕ) (at : ℕ) (r : Bool) (R : ℕ) → rows_of (claim_in s at r R) ≡ R
unfolding rows_of claim_in
claim_rows_lem s at true R = worlds_length s at R
claim_rows_lem s at false R = steps_length s at R

-- ---- the flat clauses loaded

pub loaded_none : (s left right : List ℕ) → FlatsLoaded s 0 left right left right
unfolding clauses tabulate
loaded_none s left right = record { size_left = refl; size_right = refl; loaded = refl }

-- One clause more.
pub loaded_next : (s : List ℕ) (count i : ℕ) (left0 right0 left right : List ℕ) → FlatsLoaded s i left0 right0 left right → i < count
    → count ≤ row_count left0 → count ≤ row_count right0 → (f : Flat) (left2 right2 : List ℕ) → f ≡ flat_from s (flat_start + flat_bytes * i)
    → RowSet left i f.left left2 → RowSet right i f.right right2 → FlatsLoaded s (i + 1) left0 right0 left2 right2
unfolding tabulate
loaded_next s count i left0 right0 left right h few room_left room_right f left2 right2 e l r = record {
  size_left = l.size ∙ h.size_left;
  size_right = r.size ∙ h.size_right;
  loaded = clauses_more left right left2 right2 i f.left f.right l r
      (omega (arith, same_rows left left0 h.size_left)) (omega (arith, same_rows right right0 h.size_right))
      ∙ ap₂ (λ (q : List Flat) (g : Flat). q ++ (g ∷ [])) h.loaded e
      ∙ sym (ap (flats_in s) (add-one i));
}
