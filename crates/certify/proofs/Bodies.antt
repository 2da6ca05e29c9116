-- Laws of a body put row by row.
use mathlib.Core.List.{List, ◌++◌}
use mathlib.Core.Path.{◌≡◌, refl, sym, ap, ◌∙◌}
use native.Mathlib.Nat.{mul-le-mul_left}
use native.Mathlib.Numerals.{add-one}
use native.Mathlib.Omega.{arith}
use Prim.Native.Nat.{ℕ, zero, suc, ◌+◌, ◌*◌, ◌≤◌, ◌<◌}
use lib.ListN.{length, length-append}
use Rattle.atoms.specs.Bytes.{put_at}
use Rattle.atoms.proofs.Bytes.{put_next, put_nothing}
use Rattle.ipl.specs.Lists.{tabulate}
use Rattle.certificate.specs.Format.{each}
use Rattle.certificate.proofs.Encoding.{each_snoc}
use Rattle.certify.specs.Writing.{row_after_row}

-- The rows of a table as those of a list.
pub rows_each : {A : Type 0} (row : A → List ℕ) (f : ℕ → A) (n : ℕ) → row_after_row (λ i. row (f i)) n ≡ each row (tabulate f n)
unfolding row_after_row tabulate each
rows_each row f zero = refl
rows_each row f (suc n) = ap (λ l. l ++ row (f n)) (rows_each row f n) ∙ sym (each_snoc row (tabulate f n) (f n))

pub rows_none : (row : ℕ → List ℕ) (b : List ℕ) (at : ℕ) → b ≡ put_at b at (row_after_row row 0)
unfolding row_after_row
rows_none row b at = put_nothing b at

-- Row i of a table that has room.
pub row_within : (width w at i n count size : ℕ) → w ≡ width → n ≡ count → i < n → at + width * count ≤ size → at + w * i + width ≤ size
row_within width w at i n count size e f h room =
    let fits : width * (i + 1) ≤ width * count = mul-le-mul_left width (omega (arith, f, h)) in
    let same : w * i ≡ width * i = ap (λ w. w * i) e in
    omega (arith, same)

-- What a loop over the rows of a table keeps.
module _ (row : ℕ → List ℕ) (width : ℕ) (wide : (i : ℕ) → length (row i) ≡ width) where
  length_rows : (n : ℕ) → length (row_after_row row n) ≡ width * n
  unfolding row_after_row
  length_rows zero = omega arith
  length_rows (suc n) = omega (arith, length-append (row_after_row row n) (row n), wide n, length_rows n)

  pub rows_next : (b b1 b2 : List ℕ) (at i count : ℕ) → i < count → at + width * count ≤ length b
      → b1 ≡ put_at b at (row_after_row row i) → b2 ≡ put_at b1 (at + width * i) (row i) → b2 ≡ put_at b at (row_after_row row (i + 1))
  unfolding row_after_row
  rows_next b b1 b2 at i count h room first second =
      put_next b b1 b2 at (at + width * i) (row_after_row row i) (row i) (omega (arith, length_rows i)) (omega (arith, wide i, row_within width width at i count count (length b) refl refl h room)) first second
      ∙ ap (put_at b at) (sym (rw (add-one i) refl))
