-- What is printed of a screened text is one short line.
use mathlib.Core.Bool.{false}
use mathlib.Core.List.{List, [], ◌∷◌, ◌++◌}
use mathlib.Core.Option.{Option, none, some}
use mathlib.Core.Path.{◌≡◌, refl, ap, subst}
use Prim.Native.Nat.{ℕ, ◌*◌, ◌^◌, ◌≤◌}
use native.Mathlib.Omega.{arith}
use lib.Dec.{ltb}
use lib.ListN.{length, length-append}
use borrow.Author.Tests.{ltb-false}
use Rattle.atoms.proofs.Truth.{by_cond}
use Rattle.std.specs.Prelude.{Result}
use Rattle.ipl.specs.First.{first_failing}
use Rattle.ipl.specs.Lists.{All}
use Rattle.syntax.specs.Judge as judgement
use Rattle.syntax.specs.Judge.{Judgement, judge, Right}
use Rattle.syntax.proofs.Judge.{judge_right}
use Rattle.fork.specs.Fork.{whole, set_count}
use Rattle.fork.specs.Screen as fork
use Rattle.fork.specs.Screen.{most_letters, letters, assignment, gives_whole, Screening, falls_at, screened, screening}
use Rattle.fork.specs.Answer.{ScreenedAs}
use Rattle.fork.specs.declared.Screened.{Screened}
use Rattle.fork.proofs.Right.{screening_says}
use Rattle.refusal.specs.declared.Refusal.{Refusal}
use Rattle.fork.proofs.Digits.{assignment_length, assignment_sets}
use Rattle.certificate.specs.Format.{each}
use Rattle.text.specs.Text.{ascii}
use Rattle.text.specs.Output.{longest, Reported, Gives}
use Rattle.text.proofs.Appending.{reported_gives}
use Rattle.text.proofs.Lengths.{labelled_length, refusal_length}
use Rattle.report.specs.Screening.{set_figure, falls_line, passes_line, screening_line, screened_line, screen_line, ScreenPrinted}
use Rattle.report.proofs.Fitting.{text_refusal_short}

-- The line of the answer is that of the screening.
pub line_is : (o : Screening) (r : Result Screened Refusal) → ScreenedAs o r → screened_line r ≡ screening_line o
line_is o r a = ap screening_line a

-- What is printed of a text is right.
pub screen_printed : (s : List ℕ) → ScreenPrinted s
screen_printed s = (screening (judge s), refl, screening_says s)

figures_length : (sets : List ℕ) → All (λ s. s ≤ whole) sets → length (each set_figure sets) ≤ 3 * length sets
unfolding each set_figure ascii
figures_length [] h = omega arith
figures_length (s ∷ sets) h =
    omega (arith, length-append (set_figure s) (each set_figure sets), labelled_length " " 1 s (omega (arith, h.0)), figures_length sets h.1)

falls_short : (sets : List ℕ) → All (λ s. s ≤ whole) sets → length sets ≤ most_letters → length (falls_line sets) ≤ 19
unfolding falls_line ascii
falls_short sets h few =
    omega (arith, length-append (ascii "falls" ++ each set_figure sets) (ascii "\n"), length-append (ascii "falls") (each set_figure sets), figures_length sets h)

found_short : (k : ℕ) → k ≤ most_letters → (o : Option ℕ) → length (screening_line (falls_at k o)) ≤ 19
unfolding passes_line ascii
found_short k few none = omega arith
found_short k few (some n) = falls_short (assignment k n) (assignment_sets k n) (omega (arith, assignment_length k n))

pub screen_short : (s : List ℕ) → length (screen_line s) ≤ 19
unfolding screening screened
screen_short s = go (judge s) (judge_right s)
  where
    go : (j : Judgement) → Right s j → length (screening_line (screening j)) ≤ 19
    go (judgement.refused number place) h = text_refusal_short s number place h
    go (judgement.accepted f) h =
        let k = length (letters f) in
        by_cond (λ (o : Screening). length (screening_line o) ≤ 19) (ltb most_letters k) (fork.refused 22 0) (screened f)
        (λ t. omega (arith, refusal_length false 1 3 22 0 (omega arith) (omega arith)))
        (λ t. found_short k (omega (arith, ltb-false most_letters k t)) (first_failing (λ n. gives_whole f (assignment k n)) (set_count ^ k)))

pub screen_given : {entry exit : List ℕ} {n : ℕ} (s : List ℕ) (r : Result Screened Refusal) → ScreenedAs (screening (judge s)) r → Reported (screened_line r) entry exit n
    → Gives (screen_line s) entry exit n
unfolding longest
screen_given {entry} {exit} {n} s r a w =
    reported_gives (omega (arith, screen_short s)) (subst (λ (T : List ℕ). Reported T entry exit n) (line_is (screening (judge s)) r a) w)
