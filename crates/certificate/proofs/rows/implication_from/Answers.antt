-- The three atoms.
use mathlib.Core.List.{List}
use mathlib.Core.Path.{◌≡◌, refl}
use Prim.Native.Nat.{ℕ, ◌+◌}
use lib.ListN.{get_or}
use Rattle.ipl.specs.Clause.{Implication}
use Rattle.certificate.specs.Layout.{implication_from}
use Rattle.certificate.proofs.rows.implication_from.Goals as goal

made : (s : List ℕ) (at a b c : ℕ) → a ≡ get_or s at 0 → b ≡ get_or s (at + 1) 0 → c ≡ get_or s (at + 2) 0
    → ◌≡◌ {A = Implication} (record { a = a; b = b; c = c }) (implication_from s at)
unfolding implication_from
made s at a b c ea eb ec = rw (← ea, ← eb, ← ec) refl

pub returns : goal.returns
returns c = made _ _ _ _ _ c.byte.ensures c.byte-2.ensures c.byte-3.ensures
