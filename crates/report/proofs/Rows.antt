-- Lines of a table's rows, one after the other.
use mathlib.Core.List.{List}
use mathlib.Core.Path.{◌≡◌, sym, ap, ◌∙◌}
use Prim.Native.Nat.{ℕ, ◌+◌, ◌-◌, ◌≤◌}
use native.Mathlib.Numerals.{add-one}
use native.Mathlib.Omega.{arith}
use lib.ListN.{length}
use Rattle.ipl.specs.Lists.{tabulate}
use Rattle.ipl.proofs.Lists.{tabulate_append}
use Rattle.certificate.specs.Format.{each}
use Rattle.certificate.proofs.Encoding.{each_append, each_snoc}
use Rattle.text.specs.declared.draft.Draft.{Draft}
use Rattle.text.specs.Output.{Appends}
use Rattle.text.proofs.Appending.{same_text, both, full}

pub next_line : {A : Type 0} (line : A → List ℕ) (row : ℕ → A) {d e f : Draft} (i : ℕ) → Appends (each line (tabulate row i)) d e → Appends (line (row i)) e f
    → Appends (each line (tabulate row (i + 1))) d f
unfolding tabulate each
next_line line row i p q =
    same_text (sym (ap (λ (n : ℕ). each line (tabulate row n)) (add-one i) ∙ each_snoc line (tabulate row i) (row i))) (both p q)

-- Once the draft is full, the other lines are dropped.
pub lines_full : {A : Type 0} (line : A → List ℕ) (row : ℕ → A) {d e : Draft} (i n : ℕ) → i ≤ n → e.len ≡ length e.text.now → Appends (each line (tabulate row i)) d e
    → Appends (each line (tabulate row n)) d e
lines_full line row {e = e} i n h all p =
    let rest = tabulate (λ j. row (i + j)) (n - i) in
    same_text
    (sym (each_append line (tabulate row i) rest)
    ∙ ap (each line) (sym (tabulate_append row i (n - i)))
    ∙ ap (λ (j : ℕ). each line (tabulate row j)) (omega arith))
    (both p (full (each line rest) e all))
