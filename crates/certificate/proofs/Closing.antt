-- The closing clause of an implication, as the code looks for it.
use mathlib.Core.Bool.{true}
use mathlib.Core.List.{List}
use mathlib.Core.Path.{◌≡◌, refl, ap₂, ◌∙◌}
use Prim.Native.Nat.{ℕ, ◌+◌, ◌*◌, ◌<◌}
use native.Mathlib.Omega.{arith}
use lib.Dec.{T}
use borrow.Author.Tests.{eq-eqb, ne_eqb}
use Rattle.atoms.specs.Sets.{limit}
use Rattle.atoms.specs.Words.{single_or_empty}
use Rattle.atoms.proofs.Truth.{true_T}
use Rattle.ipl.specs.Lists.{any}
use Rattle.ipl.specs.Clause.{bot, Flat, Implication, same_flat, closing, closed}
use Rattle.ipl.specs.Range.{implication_in_range}
use Rattle.ipl.proofs.Lists.{all_at}
use Rattle.ipl.proofs.Range.{implication_below, single_one}
use Rattle.certificate.specs.Format.{implication_bytes, implication_start}
use Rattle.certificate.specs.Layout.{implication_from, problem_in}
use Rattle.certificate.specs.Checked.{Ranged, problem_by, claim_by}
use Rattle.certificate.specs.declared.Contents.{Contents}
use Rattle.certificate.proofs.InRange.{implications_below_limit}

module _ (F : List Flat) (i : Implication) where
  pub closed_bottom : i.b ≡ bot → true ≡ closed F i
  unfolding closed
  closed_bottom e = rw (eq-eqb i.b bot e) refl

  pub closed_listed : (i.b ≡ bot → ⊥) → T (implication_in_range limit i) → (l r : ℕ) → l ≡ single_or_empty i.b → r ≡ single_or_empty i.c
      → any (same_flat (record { left = l; right = r })) F ≡ closed F i
  unfolding closed closing
  closed_listed f t l r el er =
      let below = implication_below limit i t in
      rw (ne_eqb i.b bot f)
      (ap₂ (λ (x y : ℕ). any (same_flat (record { left = x; right = y })) F)
      (el ∙ single_one limit i.b (omega arith) below.b) (er ∙ single_one limit i.c (omega arith) below.c))

-- The implications of bytes in range have atoms in range over all there is room for.
pub implication_ranged : (s : List ℕ) (k : Contents) → Ranged s k → (i : ℕ) → i < k.implications
    → T (implication_in_range limit (implication_from s (implication_start k.flats + implication_bytes * i)))
unfolding problem_in
implication_ranged s k r i l =
    true_T (all_at (implication_in_range limit) (λ j. implication_from s (implication_start k.flats + implication_bytes * j)) i k.implications l
    (implications_below_limit (problem_by s k) (claim_by s k) r.ranged))
