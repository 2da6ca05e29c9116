-- The lines of the table, piece by piece.
use mathlib.Core.Path.{◌≡◌, refl, sym, ap}
use Prim.Native.Nat.{ℕ, ◌+◌, ◌≤◌}
use native.Mathlib.Numerals.{add-one}
use lib.ListN.{length}
use borrow.Author.Tests.{leb-true}
use Rattle.ipl.specs.Lists.{all, tabulate}
use Rattle.fork.specs.Fork.{whole, set_count}
use Rattle.fork.specs.Algebra.{meet, within, is_implication, number_with, implication}
use Rattle.text.specs.declared.draft.Draft.{Draft}
use Rattle.text.specs.Text.{ascii, decimal_within, decimal}
use Rattle.text.specs.Output.{longest, Appends}
use Rattle.text.proofs.Appending.{same_text, both}
use Rattle.fork_table.specs.Table.{entry, entries, row_text, rows, table_text}

module _ {x y z : Draft} where
  pub next_entry : (a b : ℕ) → Appends (entries a b) x y → Appends (entry a b " ") y z → Appends (entries a (b + 1)) x z
  unfolding entries
  next_entry a b p q = same_text (ap (entries a) (sym (add-one b))) (both p q)

  pub row_end : (a b : ℕ) → b ≡ whole → Appends (entries a b) x y → Appends (entry a whole "\n") y z → Appends (row_text a) x z
  unfolding row_text
  row_end a b e p q = both (same_text (ap (entries a) e) p) q

  pub next_row : (a : ℕ) → Appends (rows a) x y → Appends (row_text a) y z → Appends (rows (a + 1)) x z
  unfolding rows
  next_row a p q = same_text (ap rows (sym (add-one a))) (both p q)

pub table_end : {x y : Draft} (a : ℕ) → a ≡ set_count → Appends (rows a) x y → Appends table_text x y
unfolding table_text
table_end a e p = same_text (ap rows e) p

-- antt computes its length.
pub table_fits : length table_text ≤ longest
unfolding all tabulate meet within is_implication number_with implication decimal_within decimal ascii entries row_text rows table_text longest
table_fits = leb-true (length table_text) longest refl
