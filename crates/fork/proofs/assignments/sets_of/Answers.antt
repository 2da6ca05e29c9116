use mathlib.Core.Path.{◌≡◌, refl, sym, ap₂, ◌∙◌, subst}
use mathlib.Core.List.{List, [], ◌∷◌, ◌++◌}
use Prim.Native.Nat.{ℕ, ◌+◌, ◌-◌, ◌≤◌, ◌<◌}
use native.Mathlib.Numerals.{add-one}
use lib.ListN.{length, take, set, length-set}
use lib.Seq.{take-suc, take-suc-set, take_all}
use Rattle.fork.specs.Screen.{assignment, most_letters}
use Rattle.fork.specs.Cells.{set_at}
use Rattle.fork.proofs.Digits.{assignment_length, place_set}
use native.Mathlib.Omega.{arith}
use Rattle.fork.proofs.assignments.sets_of.Goals as goal

-- One letter more.
more : (number letters i : ℕ) (sets : List ℕ) (x : ℕ) → letters ≤ most_letters → i < letters → length sets ≡ most_letters
    → take i sets ≡ take i (assignment letters number) → x ≡ set_at number (most_letters - letters + i)
    → take (i + 1) (set sets i x) ≡ take (i + 1) (assignment letters number)
more number letters i sets x few h l e d =
    rw (add-one i) (take-suc-set sets i x (omega arith)
    ∙ ap₂ (λ (a : List ℕ) (s : ℕ). a ++ (s ∷ [])) e (d ∙ place_set letters number i _ few h refl)
    ∙ sym (take-suc (assignment letters number) i 0 (omega (arith, assignment_length letters number))))

pub loop-i-preserved : goal.loop-i-preserved
loop-i-preserved c =
    let s = c.args in
    let l = c.loop-i in
    rw c.from.ensures (
      length-set l.sets l.i c.set_at.result ∙ l.invariant.0,
      more s.number s.letters l.i l.sets _ c.requires c.loop-i-test.true l.invariant.0 l.invariant.1 c.set_at.ensures,
    )

pub returns : goal.returns
returns c =
    let s = c.args in
    let l = c.loop-i in
    let all : l.i ≡ s.letters = omega (arith, c.loop-i-test.false, l.auto.i-end) in
    subst (λ (i : ℕ). take i l.sets ≡ take i (assignment s.letters s.number)) all l.invariant.1
    ∙ take_all s.letters (assignment s.letters s.number) (omega (arith, assignment_length s.letters s.number))
