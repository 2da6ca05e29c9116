-- A text has at most one reading, and the function `reading` gives it.
use mathlib.Core.Bool.{Bool, true, false}
use mathlib.Core.List.{List, [], ◌∷◌, ◌++◌}
use mathlib.Core.Option.{Option, none, some}
use mathlib.Core.Path.{◌≡◌, refl, sym, ◌∙◌, ap, subst}
use Prim.Native.Nat.{ℕ, suc}
use native.Mathlib.Omega.{arith}
use Rattle.syntax.specs.Class.{Class, foreign, closing, ampersand, bar, greater, equals, blank, tilde, opening, nought, lowercase, tokens, after}
use Rattle.ipl.specs.Formula as formula
use Rattle.ipl.specs.Formula.{Formula, iff}
use Rattle.syntax.specs.Grammar.{Level, negation, conjunction, disjunction, implication, equivalence, Parses, a_letter, a_falsum}
use Rattle.syntax.specs.Grammar.{by_not, inside, no_and, by_and, no_or, by_or, no_implies, by_implies, no_equal, by_equal, Reads}
use Rattle.syntax.specs.Scan as scan
use Rattle.syntax.specs.Scan.{State, misfit, wanted, had, move, ends}
use Rattle.syntax.specs.Reading.{Outer, top, paren, implied, equated, Reader, stuck, want, have, negated, join_left, operand, shut, equate, finish, read_token, result, reading}
use Rattle.syntax.proofs.Class.{after_append}
use Rattle.syntax.proofs.Beginning.{scan_tokens, scanned_formula}

-- An operand of `|` was read: its last part, and what stands to the left of it.
record Alternatives (t : Formula) (k : Outer) (r : Reader) : Type 0 where
  last : Formula
  left : Option Formula
  whole : join_left formula.or left last ≡ t
  reached : r ≡ have last left k

-- A formula was read: whatever closes or ends it has t. One without an `=` at its own level: so has an `=` after it.
abbrev Whole : Formula → Outer → Reader → Type 0
Whole t k r = (read_token r closing ≡ shut t k) × (result r ≡ finish t k)

abbrev Implication : Formula → Outer → Reader → Type 0
Implication t k r = Whole t k r × (read_token r equals ≡ equate t k)

-- No `=` has stood, and no `>` waits.
abbrev Fresh : Outer → Type 0
Fresh k = (t : Formula) → equate t k ≡ want 0 none none (equated t k)

-- What the tokens of a formula of each level do to the reading.
abbrev Leads : Level → List Class → Formula → Type 0
Leads negation u t = (n : ℕ) (a o : Option Formula) (k : Outer) → after read_token (want n a o k) u ≡ have (operand n a t) o k
Leads conjunction u t = (o : Option Formula) (k : Outer) → after read_token (want 0 none o k) u ≡ have t o k
Leads disjunction u t = (k : Outer) → Alternatives t k (after read_token (want 0 none none k) u)
Leads implication u t = (k : Outer) → Implication t k (after read_token (want 0 none none k) u)
Leads equivalence u t = (k : Outer) → Fresh k → Whole t k (after read_token (want 0 none none k) u)

module _ (u v : List Class) (c : Class) {q : Reader} where
  -- The tokens of a part, an operator, and the rest.
  then_token : (r : Reader) → read_token (after read_token r u) c ≡ q → after read_token r (u ++ (c ∷ v)) ≡ after read_token q v
  unfolding after
  then_token r e = after_append read_token r u (c ∷ v) ∙ ap (λ (x : Reader). after read_token x v) e

module _ (u v : List Class) (p q : Formula) where
  or_leads : Leads disjunction u p → Leads conjunction v q → Leads disjunction (u ++ (bar ∷ v)) (formula.or p q)
  unfolding read_token
  or_leads r s k =
      let x = r k in
      let step = ap (λ (z : Reader). read_token z bar) x.reached ∙ ap (λ (t : Formula). want 0 none (some t) k) x.whole in
      record { last = q; left = some p; whole = refl; reached = then_token u v bar (want 0 none none k) step ∙ s (some p) k }

  -- What is read to the right of `>` or `=` closes the whole.
  implies_leads : Leads disjunction u p → Leads implication v q → Leads implication (u ++ (greater ∷ v)) (formula.implies p q)
  unfolding read_token shut finish equate
  implies_leads r s k =
      let x = r k in
      let step = ap (λ (z : Reader). read_token z greater) x.reached ∙ ap (λ (t : Formula). want 0 none none (implied t k)) x.whole in
      subst (Implication (formula.implies p q) k) (sym (then_token u v greater (want 0 none none k) step)) (s (implied p k))

  equal_leads : Leads implication u p → Leads implication v q → Leads equivalence (u ++ (equals ∷ v)) (iff p q)
  unfolding shut finish
  equal_leads r s k fresh =
      subst (Whole (iff p q) k) (sym (then_token u v equals (want 0 none none k) ((r k).1 ∙ fresh p))) (s (equated p k)).0

-- A disjunction alone.
implication_leads : (u : List Class) (p : Formula) → Leads disjunction u p → Leads implication u p
unfolding read_token result
implication_leads u p r k =
    let x = r k in
    let is : have x.last x.left k ≡ after read_token (want 0 none none k) u = sym x.reached in
    subst (Implication p k) is ((ap (λ (t : Formula). shut t k) x.whole, ap (λ (t : Formula). finish t k) x.whole), ap (λ (t : Formula). equate t k) x.whole)

leads : {k : Level} {u : List Class} {t : Formula} → Parses k u t → Leads k u t
unfolding after read_token negated shut equate
leads a_letter = λ n a o k. refl
leads a_falsum = λ n a o k. refl
leads (by_not r) = λ n a o k. leads r (suc n) a o k
leads (inside {u} r) = λ n a o k. then_token u [] closing (want 0 none none (paren n a o k)) (leads r (paren n a o k) (λ p. refl)).0
leads (no_and r) = λ o k. leads r 0 none o k
leads (by_and {u} {v} {p} r s) = λ o k. then_token u v ampersand (want 0 none o k) (ap (λ (z : Reader). read_token z ampersand) (leads r o k)) ∙ leads s 0 (some p) o k
leads (no_or {p = p} r) = λ k. record { last = p; left = none; whole = refl; reached = leads r none k }
leads (by_or {u} {v} {p} {q} r s) = or_leads u v p q (leads r) (leads s)
leads (no_implies {u} {p} r) = implication_leads u p (leads r)
leads (by_implies {u} {v} {p} {q} r s) = implies_leads u v p q (leads r) (leads s)
leads (no_equal r) = λ k fresh. (leads r k).0
leads (by_equal {u} {v} {p} {q} r s) = equal_leads u v p q (leads r) (leads s)

pub reading_of : (s : List ℕ) (t : Formula) → Reads s t → reading s ≡ some t
unfolding reading finish equate
reading_of s t r = (leads r top (λ p. refl)).1

-- "A text has at most one reading."
pub unique : (s : List ℕ) (t u : Formula) → Reads s t → Reads s u → t ≡ u
unique s t u r q = let e : some t ≡ some u = sym (reading_of s t r) ∙ reading_of s u q in cc

-- The reading gets stuck exactly where the scan meets a token that does not fit.
equated_in : Outer → Bool
equated_in top = false
equated_in (paren n a o k) = false
equated_in (implied l k) = equated_in k
equated_in (equated l k) = true

around : Outer → List Bool
around top = []
around (paren n a o k) = equated_in k ∷ around k
around (implied l k) = around k
around (equated l k) = around k

state_of : Reader → State
state_of stuck = misfit
state_of (want n a o k) = wanted (equated_in k) (around k)
state_of (have t o k) = had (equated_in k) (around k)

shut_state : (k : Outer) (t : Formula) → state_of (shut t k) ≡ scan.closed (around k)
unfolding shut state_of around
shut_state top t = refl
shut_state (paren n a o k) t = refl
shut_state (implied l k) t = shut_state k (formula.implies l t)
shut_state (equated l k) t = shut_state k (iff l t)

equate_state : (k : Outer) (t : Formula) → state_of (equate t k) ≡ scan.equated (equated_in k) (around k)
unfolding equate state_of equated_in around
equate_state top t = refl
equate_state (paren n a o k) t = refl
equate_state (implied l k) t = equate_state k (formula.implies l t)
equate_state (equated l k) t = refl

step_state : (r : Reader) (c : Class) → state_of (read_token r c) ≡ move (state_of r) c
unfolding read_token state_of move equated_in around
step_state stuck c = refl
step_state (want n a o k) foreign = refl
step_state (want n a o k) closing = refl
step_state (want n a o k) ampersand = refl
step_state (want n a o k) bar = refl
step_state (want n a o k) greater = refl
step_state (want n a o k) equals = refl
step_state (want n a o k) blank = refl
step_state (want n a o k) tilde = refl
step_state (want n a o k) opening = refl
step_state (want n a o k) nought = refl
step_state (want n a o k) (lowercase l) = refl
step_state (have t o k) foreign = refl
step_state (have t o k) closing = shut_state k (join_left formula.or o t)
step_state (have t o k) ampersand = refl
step_state (have t o k) bar = refl
step_state (have t o k) greater = refl
step_state (have t o k) equals = equate_state k (join_left formula.or o t)
step_state (have t o k) blank = refl
step_state (have t o k) tilde = refl
step_state (have t o k) opening = refl
step_state (have t o k) nought = refl
step_state (have t o k) (lowercase l) = refl

steps_state : (l : List Class) (r : Reader) → state_of (after read_token r l) ≡ after move (state_of r) l
unfolding after
steps_state [] r = refl
steps_state (c ∷ l) r = steps_state l (read_token r c) ∙ ap (λ (x : State). after move x l) (step_state r c)

finished : (k : Outer) (t u : Formula) (e : Bool) → finish t k ≡ some u → ends (had e (around k)) ≡ true
unfolding finish around
finished top t u e h = refl
finished (paren n a o k) t u e h = let z : ◌≡◌ {A = ℕ} 0 1 = cc in absurd (omega arith)
finished (implied l k) t u e h = finished k (formula.implies l t) u e h
finished (equated l k) t u e h = finished k (iff l t) u e h

result_state : (r : Reader) (t : Formula) → result r ≡ some t → ends (state_of r) ≡ true
unfolding result state_of
result_state stuck t e = let z : ◌≡◌ {A = ℕ} 0 1 = cc in absurd (omega arith)
result_state (want n a o k) t e = let z : ◌≡◌ {A = ℕ} 0 1 = cc in absurd (omega arith)
result_state (have u o k) t e = finished k (join_left formula.or o u) t (equated_in k) e

pub reading_reads : (s : List ℕ) (t : Formula) → reading s ≡ some t → Reads s t
unfolding reading state_of equated_in around
reading_reads s t e =
    let r = after read_token (want 0 none none top) (tokens s) in
    let f = scanned_formula s (ap ends (scan_tokens s ∙ sym (steps_state (tokens s) (want 0 none none top))) ∙ result_state r t e) in
    let q : some f.0 ≡ some t = sym (reading_of s f.0 f.1) ∙ e in
    let same : f.0 ≡ t = cc in
    rw same at f.1
