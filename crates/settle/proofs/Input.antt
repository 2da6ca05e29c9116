-- What follows enough bytes does not matter.
use mathlib.Core.Bool.{Bool, true, false, cond}
use mathlib.Core.List.{List, ◌++◌}
use mathlib.Core.Logic.{inr}
use mathlib.Core.Path.{◌≡◌, sym, ap, ◌∙◌}
use Prim.Native.Nat.{ℕ, ◌-◌, ◌≤◌, ◌<◌, min}
use native.Mathlib.Omega.{arith}
use lib.Dec.{eqb}
use lib.ListN.{length, get_or, length-take, length-append}
use Rattle.settle.specs.Input.{formula_length, formula, enough}
use Rattle.syntax.specs.Refusal.{most_bytes, line_1}
use Rattle.syntax.specs.Judge.{refused, judge}
use Rattle.syntax.proofs.Judge.{judge_only}
use Rattle.report.specs.Printed.{printed_as, printed, sheet_as, sheet}

formula_long : (s : List ℕ) → enough ≤ length s → most_bytes < length (formula s)
unfolding formula_length
formula_long s h = rw (length-take (formula_length s) s) (go (eqb (get_or s (length s - 1) 0) 10))
  where
    go : (b : Bool) → most_bytes < min (cond b (length s - 1) (length s)) (length s)
    go true = omega arith
    go false = omega arith

too_long : (s : List ℕ) → most_bytes < length s → judge s ≡ refused 1 0
too_long s h = judge_only s (refused 1 0) (line_1 (inr h))

-- What is printed and the sheet are those of the whole input.
pub beginning_decides : (s rest : List ℕ) → enough ≤ length s → (printed (formula s) ≡ printed (formula (s ++ rest))) × (sheet (formula s) ≡ sheet (formula (s ++ rest)))
unfolding printed sheet
beginning_decides s rest h =
    let longer : enough ≤ length (s ++ rest) = rw (length-append s rest) (omega arith) in
    let same : judge (formula s) ≡ judge (formula (s ++ rest)) =
    too_long (formula s) (formula_long s h) ∙ sym (too_long (formula (s ++ rest)) (formula_long (s ++ rest) longer)) in
    (ap printed_as same, ap sheet_as same)
