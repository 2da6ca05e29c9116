-- The scan over tokens: what a formula does to it.
use mathlib.Core.Bool.{Bool, true, false, false≢true}
use mathlib.Core.List.{List, [], ◌∷◌, ◌++◌}
use mathlib.Core.Path.{◌≡◌, refl, sym, ◌∙◌, ap}
use Rattle.syntax.specs.Class.{Class, closing, ampersand, bar, greater, equals, after}
use Rattle.ipl.specs.Formula.{Formula}
use Rattle.syntax.specs.Grammar.{Level, negation, conjunction, disjunction, implication, equivalence, Parses, a_letter, a_falsum}
use Rattle.syntax.specs.Grammar.{by_not, inside, no_and, by_and, no_or, by_or, no_implies, by_implies, no_equal, by_equal}
use Rattle.syntax.specs.Scan.{State, misfit, wanted, had, move, ends}
use Rattle.syntax.proofs.Class.{after_append}
use Rattle.syntax.proofs.Fault.{misfit_stays}

-- After a formula no operand is wanted, with the same parentheses open; one without an `=` at its own level leaves that as it was.
abbrev Keeps : List Class → Type 0
Keeps u = (e : Bool) (E : List Bool) → after move (wanted e E) u ≡ had e E

abbrev pub Runs : Level → List Class → Type 0
Runs negation u = Keeps u
Runs conjunction u = Keeps u
Runs disjunction u = Keeps u
Runs implication u = Keeps u
Runs equivalence u = (E : List Bool) → (e : Bool) × (after move (wanted false E) u ≡ had e E)

-- An operand, a token after which another is wanted, and that one.
joined_runs : (u v : List Class) (c : Class) (e f : Bool) (E : List Bool) → after move (wanted e E) u ≡ had e E → move (had e E) c ≡ wanted f E
    → after move (wanted f E) v ≡ had f E → after move (wanted e E) (u ++ (c ∷ v)) ≡ had f E
unfolding after
joined_runs u v c e f E r m q =
    after_append move (wanted e E) u (c ∷ v) ∙ ap (λ (x : State). after move (move x c) v) r ∙ ap (λ (x : State). after move x v) m ∙ q

pub parse_runs : {k : Level} {u : List Class} {t : Formula} → Parses k u t → Runs k u
unfolding after move
parse_runs a_letter = λ e E. refl
parse_runs a_falsum = λ e E. refl
parse_runs (by_not r) = parse_runs r
parse_runs (inside {u} r) = λ e E.
    after_append move (wanted false (e ∷ E)) u (closing ∷ []) ∙ ap (λ (x : State). after move x (closing ∷ [])) (parse_runs r (e ∷ E)).1
parse_runs (no_and r) = parse_runs r
parse_runs (by_and {u} {v} r q) = λ e E. joined_runs u v ampersand e e E (parse_runs r e E) refl (parse_runs q e E)
parse_runs (no_or r) = parse_runs r
parse_runs (by_or {u} {v} r q) = λ e E. joined_runs u v bar e e E (parse_runs r e E) refl (parse_runs q e E)
parse_runs (no_implies r) = parse_runs r
parse_runs (by_implies {u} {v} r q) = λ e E. joined_runs u v greater e e E (parse_runs r e E) refl (parse_runs q e E)
parse_runs (no_equal r) = λ E. (false, parse_runs r false E)
parse_runs (by_equal {u} {v} r q) = λ E. (true, joined_runs u v equals false true E (parse_runs r false E) refl (parse_runs q true E))

pub misfit_run : (l : List Class) → ends (after move misfit l) ≡ true → ⊥
misfit_run l e = false≢true (sym (ap ends (misfit_stays l)) ∙ e)
