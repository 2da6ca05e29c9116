-- The one-pass scan for refusal 3: whether an operand is wanted next, which parentheses are open, and where an `=` has stood.
use Rattle.std.specs.Prelude.{Bool, true, false, List, [], ◌∷◌, map, ◌≡◌, ℕ, zero, suc, ◌<◌, Option, Some, None}
use Rattle.atoms.specs.Sets.{has}
use Rattle.atoms.specs.Words.{num}
use Rattle.syntax.specs.Class.{Class, foreign, closing, ampersand, bar, greater, equals, blank, tilde, opening, nought, lowercase, class_of, after}
use Rattle.syntax.specs.Refusal.{most_open}
use Rattle.syntax.specs.declared.scan.Levels.{Levels}

-- After a token that does not fit; or an operand is wanted or not, with the levels at which an `=` has stood: the innermost open
-- parenthesis's, and those around it, the text's last.
pub data State : Type 0 where
  misfit : State
  wanted had : Bool → List Bool → State

abbrev pub start : State
start = wanted false []

abbrev pub closed : List Bool → State
closed [] = misfit
closed (e ∷ E) = had e E

abbrev pub equated : Bool → List Bool → State
equated false E = wanted true E
equated true E = misfit

unfoldable pub move : State → Class → State
move misfit c = misfit
move (wanted e E) foreign = misfit
move (wanted e E) closing = misfit
move (wanted e E) ampersand = misfit
move (wanted e E) bar = misfit
move (wanted e E) greater = misfit
move (wanted e E) equals = misfit
move (wanted e E) blank = wanted e E
move (wanted e E) tilde = wanted e E
move (wanted e E) opening = wanted false (e ∷ E)
move (wanted e E) nought = had e E
move (wanted e E) (lowercase l) = had e E
move (had e E) foreign = misfit
move (had e E) closing = closed E
move (had e E) ampersand = wanted e E
move (had e E) bar = wanted e E
move (had e E) greater = wanted e E
move (had e E) equals = equated e E
move (had e E) blank = had e E
move (had e E) tilde = misfit
move (had e E) opening = misfit
move (had e E) nought = misfit
move (had e E) (lowercase l) = misfit

-- No operand is wanted and nothing is open.
abbrev pub ends : State → Bool
ends misfit = false
ends (wanted e E) = false
ends (had e []) = true
ends (had e (f ∷ E)) = false

-- How many stand before the first that does not fit.
abbrev pub unless_misfit : State → ℕ → ℕ
unless_misfit misfit k = 0
unless_misfit (wanted e E) k = k
unless_misfit (had e E) k = k

unfoldable pub fitting : State → List Class → ℕ
fitting a [] = 0
fitting a (c ∷ l) = unless_misfit (move a c) (suc (fitting (move a c) l))

-- The code's values: of the levels below d, the highest first, which are in the set.
unfoldable pub levels_in : ℕ → ℕ → List Bool
levels_in zero x = []
levels_in (suc d) x = has x d ∷ levels_in d x

abbrev pub around : Levels → List Bool
around l = levels_in l.depth (num l.outer)

abbrev pub state_of : Bool → Levels → State
state_of true l = wanted l.equated (around l)
state_of false l = had l.equated (around l)

-- After a token: with an operand wanted or not, as given or as told.
abbrev pub level_state : Bool → Option Levels → State
level_state w None = misfit
level_state w (Some l) = state_of w l

abbrev pub turn_state : Option (Bool × Levels) → State
turn_state None = misfit
turn_state (Some t) = state_of t.0 t.1

-- Where the next token opens a parenthesis, there is a level for it.
abbrev pub MayOpen : Levels → Class → Type 0
MayOpen l class = class ≡ opening → l.depth < most_open

-- The scan of a whole text ends with no operand wanted and nothing open; or the first that does not fit.
abbrev pub scanned : List ℕ → State
scanned s = after move start (map class_of s)

abbrev pub Scanned : List ℕ → Option ℕ → Type 0
Scanned s None = ends (scanned s) ≡ true
Scanned s (Some k) = (ends (scanned s) ≡ false) × (k ≡ fitting start (map class_of s))
