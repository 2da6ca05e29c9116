-- Bytes written in base sixteen, one after the other.
use mathlib.Core.List.{List, [], ◌∷◌, ◌++◌}
use mathlib.Core.Path.{◌≡◌, refl, sym, ap, ap₂}
use Prim.Native.Nat.{ℕ, ◌+◌, ◌*◌, ◌/◌, ◌%◌, ◌<◌}
use native.Mathlib.Numerals.{add-one}
use native.Mathlib.Omega.{arith}
use lib.ListN.{length, take, get_or}
use lib.Seq.{take-suc}
use Rattle.text.specs.Text.{hex_digit, hex}
use Rattle.text.specs.declared.draft.Draft.{Draft}
use Rattle.text.specs.Output.{Appends}
use Rattle.text.proofs.Appending.{same_text, both}

pub hex_append : (a b : List ℕ) → hex (a ++ b) ≡ hex a ++ hex b
unfolding hex
hex_append [] b = refl
hex_append (x ∷ a) b = ap (λ (l : List ℕ). hex_digit (x / 16) ∷ hex_digit (x % 16) ∷ l) (hex_append a b)

pub hex_length : (a : List ℕ) → length (hex a) ≡ 2 * length a
unfolding hex
hex_length [] = refl
hex_length (x ∷ a) = omega (arith, hex_length a)

-- The byte b at i, by its two digits.
pub next_hex : {x y z : Draft} (bytes : List ℕ) (i b high low : ℕ) → i < length bytes → b ≡ get_or bytes i 0 → high ≡ hex_digit (b / 16) → low ≡ hex_digit (b % 16)
    → Appends (hex (take i bytes)) x y → Appends (high ∷ low ∷ []) y z → Appends (hex (take (i + 1) bytes)) x z
unfolding hex
next_hex bytes i b high low inside e h l p q =
    let digits : high ∷ low ∷ [] ≡ hex (b ∷ []) = ap₂ (λ (h l : ℕ). h ∷ l ∷ []) h l in
    let longer : take (i + 1) bytes ≡ take i bytes ++ (b ∷ []) = rw (add-one, take-suc bytes i 0 inside, e) refl in
    same_text (rw longer (sym (hex_append (take i bytes) (b ∷ [])))) (both p (same_text digits q))
