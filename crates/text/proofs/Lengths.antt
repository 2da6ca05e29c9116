-- How long texts are.
use mathlib.Core.Bool.{Bool, true, false}
use mathlib.Core.List.{[], ◌∷◌, ◌++◌}
use mathlib.Core.Path.{◌≡◌, refl}
use Prim.Native.Nat.{ℕ, zero, suc, ◌+◌, ◌/◌, ◌^◌, ◌≤◌, ◌<◌}
use Prim.Native.String.{String}
use native.Mathlib.Nat.{pow-suc}
use native.Mathlib.Omega.{arith}
use lib.Dec.{eqb}
use lib.ListN.{length, length-append}
use borrow.Author.Tests.{eqb-false}
use Rattle.text.specs.Text.{ascii, last_digit, decimal, labelled, refusal}
use Rattle.text.proofs.Decimal.{one_digit, last_digit_lem}

digit_more : (x k : ℕ) → (eqb (x / 10) 0 ≡ false → length (decimal (x / 10)) ≤ k) → length (decimal x) ≤ suc k
digit_more x k rest = go (eqb (x / 10) 0) refl
  where
    go : (b : Bool) → eqb (x / 10) 0 ≡ b → length (decimal x) ≤ suc k
    go true e = rw (one_digit x e) (omega arith)
    go false e = rw (last_digit_lem x e) (omega (arith, length-append (decimal (x / 10)) (last_digit x ∷ []), rest e))

decimal_length : (k x : ℕ) → x < 10 ^ suc k → length (decimal x) ≤ suc k
decimal_length zero x h = digit_more x 0 (λ e. absurd (eqb-false (x / 10) 0 e (omega arith)))
decimal_length (suc k) x h = digit_more x (suc k) (λ e. decimal_length k (x / 10) (omega (arith, pow-suc 10 (suc k))))

pub labelled_length : (label : String) (k x : ℕ) → x < 10 ^ suc k → length (labelled label x) ≤ length (ascii label) + suc k
labelled_length label k x h = omega (arith, length-append (ascii label) (decimal x), decimal_length k x h)

pub refusal_length : (b : Bool) (i j number place : ℕ) → number < 10 ^ suc i → place < 10 ^ suc j → length (refusal b number place) ≤ 15 + i + j
unfolding refusal ascii
refusal_length true i j number place hn hp =
    omega (
      arith,
      length-append (labelled "refused " number ++ labelled " at " place) (ascii "\n"),
      length-append (labelled "refused " number) (labelled " at " place),
      labelled_length "refused " i number hn,
      labelled_length " at " j place hp,
    )
refusal_length false i j number place hn hp = omega (arith, length-append (labelled "refused " number) (ascii "\n"), labelled_length "refused " i number hn)
