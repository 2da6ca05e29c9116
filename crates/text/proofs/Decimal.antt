-- Laws of numbers in base ten.
use mathlib.Core.Bool.{Bool, true, false, cond}
use mathlib.Core.List.{[], ◌∷◌, ◌++◌}
use mathlib.Core.Path.{◌≡◌, refl, sym, ap, ap₂, ◌∙◌}
use Prim.Native.Nat.{ℕ, zero, suc, ◌+◌, ◌/◌, ◌%◌, ◌^◌, ◌<◌}
use native.Mathlib.Omega.{arith}
use lib.Dec.{eqb}
use borrow.Author.Tests.{eqb-false}
use Rattle.text.specs.Text.{last_digit, decimal_within, decimal}
use Rattle.text.specs.declared.draft.Draft.{Draft}
use Rattle.text.specs.Output.{Appends}
use Rattle.text.proofs.Appending.{same_text, both}

-- Enough digits are enough.
decimal_enough : (m n x : ℕ) → x < m → x < n → decimal_within m x ≡ decimal_within n x
unfolding decimal_within
decimal_enough zero n x h k = absurd (omega arith)
decimal_enough (suc m) zero x h k = absurd (omega arith)
decimal_enough (suc m) (suc n) x h k = go (eqb (x / 10) 0) refl (decimal_enough m n (x / 10))
  where
    go : (b : Bool) → eqb (x / 10) 0 ≡ b → (x / 10 < m → x / 10 < n → decimal_within m (x / 10) ≡ decimal_within n (x / 10))
        → cond b [] (decimal_within m (x / 10)) ++ (last_digit x ∷ []) ≡ cond b [] (decimal_within n (x / 10)) ++ (last_digit x ∷ [])
    go true e same = refl
    go false e same =
        let more : (x / 10 ≡ 0) → ⊥ = eqb-false (x / 10) 0 e in
        ap (λ l. l ++ (last_digit x ∷ [])) (same (omega arith) (omega arith))

-- One digit; and the last digit after the others.
pub one_digit : (x : ℕ) → eqb (x / 10) 0 ≡ true → decimal x ≡ last_digit x ∷ []
unfolding decimal decimal_within
one_digit x e = rw e refl

pub last_digit_lem : (x : ℕ) → eqb (x / 10) 0 ≡ false → decimal x ≡ decimal (x / 10) ++ (last_digit x ∷ [])
unfolding decimal decimal_within
last_digit_lem x e =
    let more : (x / 10 ≡ 0) → ⊥ = eqb-false (x / 10) 0 e in
    rw e (ap (λ l. l ++ (last_digit x ∷ [])) (decimal_enough x (suc (x / 10)) (x / 10) (omega arith) (omega arith)))

-- A number s appended digit by digit: d is its last digit, and `rest` the number without it.
module _ (s rest d : ℕ) (rest_is : rest ≡ s / 10) (digit_is : d ≡ s % 10) where
  pub digit_fits : 48 + d < 2 ^ 8
  digit_fits = omega arith

  pub rest_less : eqb rest 0 ≡ false → rest < s
  rest_less e = let more : (rest ≡ 0) → ⊥ = eqb-false rest 0 e in omega arith

  pub digit_alone : {x z : Draft} → eqb rest 0 ≡ true → Appends ((48 + d) ∷ []) x z → Appends (decimal s) x z
  digit_alone e p =
      same_text (ap (λ (k : ℕ). (48 + k) ∷ []) digit_is ∙ sym (one_digit s (ap (λ (k : ℕ). eqb k 0) (sym rest_is) ∙ e))) p

  pub digit_after : {x y z : Draft} → eqb rest 0 ≡ false → Appends (decimal rest) x y → Appends ((48 + d) ∷ []) y z → Appends (decimal s) x z
  digit_after e p q =
      same_text
      (ap₂ (λ (j k : ℕ). decimal j ++ ((48 + k) ∷ [])) rest_is digit_is ∙ sym (last_digit_lem s (ap (λ (k : ℕ). eqb k 0) (sym rest_is) ∙ e)))
      (both p q)
