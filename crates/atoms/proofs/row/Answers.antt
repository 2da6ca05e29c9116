-- A word of the table, and 0 past its end.
use denote.Bor.{Bor}
use mathlib.Core.Path.{◌≡◌, ap, ◌∙◌}
use mathlib.Core.List.{List}
use Prim.Native.Nat.{ℕ}
use lib.Dec.{ltb}
use lib.ListN.{length, get_or, get_or-eq_default}
use native.Mathlib.Omega.{arith}
use Rattle.std.specs.Prelude.{Option, Some, None, IfSome}
use Rattle.std.specs.Option.{is_some, option_copied, unwrap_or}
use Rattle.std.proofs.lemmas.Grind.{get_or_default_zero}
use Rattle.atoms.specs.Words.{num, row_of}
use Rattle.atoms.proofs.row.Goals as goal

-- What `get` finds is the word, and 0 stands for nothing.
word_found : (o : Option (Bor ℕ)) (xs : List ℕ) (i : ℕ) → is_some o ≡ ltb i (length xs) → IfSome o (λ x. x.now ≡ get_or xs i x.now) → unwrap_or (option_copied o) 0 ≡ get_or xs i 0
word_found None xs i e h = grind (arith, e, get_or-eq_default)
word_found (Some x) xs i e h = h ∙ get_or_default_zero xs i x.now (grind (arith, e))

pub returns : goal.returns
unfolding num row_of
returns c =
    let found = c.get.ensures.lookup in
    c.unwrap_or-bits.ensures ∙ (ap (λ o. unwrap_or o 0) c.copied.ensures ∙ word_found c.get.result _ _ found.0 found.1)
