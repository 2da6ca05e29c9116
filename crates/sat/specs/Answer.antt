-- The code's answer as that of the definition.
use Rattle.std.specs.Prelude as std
use Rattle.std.specs.Prelude.{◌≡◌, ℕ, List, true, Result, Ok, Err}
use Rattle.std.proofs.Math.Option.{Option, none, some}
use Rattle.atoms.specs.Sets.{union, minus, meets}
use Rattle.atoms.specs.Words.{num, every_atom, below, single_or_empty}
use Rattle.atoms.specs.declared.AtomSet.{AtomSet}
use Rattle.ipl.specs.Search.{is_none}
use Rattle.sat.specs.Descent.{Base}
use Rattle.sat.specs.Learning.{Kept}
use Rattle.sat.specs.declared.Asked.{Asked}
use Rattle.sat.specs.declared.Proof.{Proof}
use Rattle.sat.specs.declared.known.Partial.{Partial}

-- Yes is none; no is some of the smallest model.
abbrev pub answer_of : std.Option AtomSet → Option ℕ
answer_of std.None = none
answer_of (std.Some m) = some (num m)

-- Where the rows kept follow from the table, r is the definition's answer, and the rows then kept follow too.
abbrev pub AskedKeeping : List ℕ → List ℕ → ℕ → List ℕ → ℕ → Option ℕ → List ℕ → Asked → Type 0
AskedKeeping left right count kept k answer kept2 r =
    Kept left right count kept k → (answer_of r.answer ≡ answer) × Kept left right count kept2 r.kept

-- The same, with r yes exactly where the definition's answer is none.
abbrev pub ProvedKeeping : List ℕ → List ℕ → ℕ → List ℕ → ℕ → Option ℕ → List ℕ → Proof → Type 0
ProvedKeeping left right count kept k answer kept2 r =
    Kept left right count kept k → (r.proved ≡ is_none answer) × Kept left right count kept2 r.kept

-- What a model that counters must have and lack; none where these meet.
abbrev pub Countering : ℕ → ℕ → ℕ → std.Option Partial → Type 0
Countering n given asked std.None = meets given (union (minus every_atom (below n)) (single_or_empty asked)) ≡ true
Countering n given asked (std.Some p) = Base n given asked p

-- The definition's answer, or where the search starts.
abbrev pub Attempted : ℕ → ℕ → ℕ → Option ℕ → Result (std.Option AtomSet) Partial → Type 0
Attempted n given asked answer (Ok a) = answer_of a ≡ answer
Attempted n given asked answer (Err p) = Base n given asked p
