-- The bytes of a line's digits fit a draft.
use mathlib.Core.List.{List, [], ◌∷◌}
use mathlib.Core.Path.{◌≡◌, ◌∙◌}
use Prim.Native.Nat.{ℕ, ◌*◌, ◌≤◌}
use native.Mathlib.Omega.{arith}
use lib.ListN.{length, take}
use lib.Seq.{take_all}
use Rattle.text.specs.declared.draft.Draft.{Draft}
use Rattle.text.specs.Output.{draft, Appends}
use Rattle.text.proofs.Appending.{begun}
use Rattle.script.specs.Numbers.{paired}
use Rattle.script.specs.Answer.{line_room}

paired_length : (digits : List ℕ) → 2 * length (paired digits) ≤ length digits
unfolding paired
paired_length [] = omega arith
paired_length (high ∷ []) = omega arith
paired_length (high ∷ low ∷ digits) = omega (arith, paired_length digits)

pub all_bytes : {d e : Draft} (digits : List ℕ) → length digits ≤ line_room → length d.text.now ≡ draft → d.len ≡ 0
    → Appends (paired digits) d e → take e.len e.text.now ≡ paired digits
all_bytes {d} {e} digits few room empty a =
    let b = begun empty a in
    b.same ∙ take_all e.len (paired digits) (omega (arith, b.fills, a.size, paired_length digits))
