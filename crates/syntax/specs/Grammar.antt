-- The grammar of formula text (document 01: Formula text), level by level.
use Rattle.std.specs.Prelude.{List, [], ◌∷◌, ◌++◌, ℕ}
use Rattle.ipl.specs.Formula.{Formula, letter, falsum, and, or, implies, iff}
use Rattle.syntax.specs.Class.{Class, closing, ampersand, bar, greater, equals, tilde, opening, nought, lowercase, tokens}

-- "Binding, tightest first: `~`; `&`; `|` (both group to the left); then `>`". Change 2: "`=` binds weaker than `>`", "implication still
-- groups to the right".
pub data Level : Type 0 where
  negation conjunction disjunction implication equivalence : Level

pub data Parses : Level → List Class → Formula → Type 0 where
  a_letter : {l : ℕ} → Parses negation (lowercase l ∷ []) (letter l)
  a_falsum : Parses negation (nought ∷ []) falsum
  -- "`~p` is p > 0"
  by_not : {u : List Class} {p : Formula} → Parses negation u p → Parses negation (tilde ∷ u) (implies p falsum)
  -- "Levels of the grammar call one another through parentheses."
  inside : {u : List Class} {p : Formula} → Parses equivalence u p → Parses negation (opening ∷ (u ++ (closing ∷ []))) p
  no_and : {u : List Class} {p : Formula} → Parses negation u p → Parses conjunction u p
  by_and : {u v : List Class} {p q : Formula} → Parses conjunction u p → Parses negation v q → Parses conjunction (u ++ (ampersand ∷ v)) (and p q)
  no_or : {u : List Class} {p : Formula} → Parses conjunction u p → Parses disjunction u p
  by_or : {u v : List Class} {p q : Formula} → Parses disjunction u p → Parses conjunction v q → Parses disjunction (u ++ (bar ∷ v)) (or p q)
  no_implies : {u : List Class} {p : Formula} → Parses disjunction u p → Parses implication u p
  by_implies : {u v : List Class} {p q : Formula} → Parses disjunction u p → Parses implication v q → Parses implication (u ++ (greater ∷ v)) (implies p q)
  -- "p = q is (p > q) & (q > p)"; "`p=q=r` is no formula": one `=`, or none.
  no_equal : {u : List Class} {p : Formula} → Parses implication u p → Parses equivalence u p
  by_equal : {u v : List Class} {p q : Formula} → Parses implication u p → Parses implication v q → Parses equivalence (u ++ (equals ∷ v)) (iff p q)

-- The text reads as the formula, "spaces anywhere"; it is a formula; it begins some formula.
abbrev pub Reads : List ℕ → Formula → Type 0
Reads s f = Parses equivalence (tokens s) f

abbrev pub IsFormula : List ℕ → Type 0
IsFormula s = (f : Formula) × Reads s f

abbrev pub Begins : List ℕ → Type 0
Begins u = (v : List ℕ) × IsFormula (u ++ v)
