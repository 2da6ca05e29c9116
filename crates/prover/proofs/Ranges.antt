-- Laws of the tests for range: a table's count is judged first, then row after row.
use mathlib.Core.Bool.{Bool, true, false, ◌&&◌, and-false}
use mathlib.Core.Path.{◌≡◌, sym}
use Prim.Native.Nat.{ℕ, ◌≤◌, ◌<◌}
use lib.Dec.{leb}
use borrow.Author.Tests.{le-leb, lt-leb}
use Rattle.ipl.specs.Lists.{all, tabulate}
use Rattle.ipl.proofs.Lists.{all_fails, all_end}

module _ {A : Type 0} (p : A → Bool) (row : ℕ → A) (count most : ℕ) where
  pub too_many : most < count → false ≡ leb count most && all p (tabulate row count)
  too_many h = rw (lt-leb count most h)

  pub row_fails : (i : ℕ) → i < count → p (row i) ≡ false → false ≡ leb count most && all p (tabulate row count)
  row_fails i h e = rw (all_fails p row i count h e) (sym (and-false (leb count most)))

  pub rows_hold : count ≤ most → (i : ℕ) → i ≤ count → count ≤ i → all p (tabulate row i) ≡ true → true ≡ leb count most && all p (tabulate row count)
  rows_hold h i k l e = rw (le-leb count most h) (all_end p row i count k l e)
