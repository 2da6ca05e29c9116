-- The scan ends well exactly on formulas, and its place is the length of the longest beginning that begins some formula.
use mathlib.Core.Bool.{Bool, true, false, cond, false≢true}
use mathlib.Core.List.{List, [], ◌∷◌, ◌++◌, map, append_assoc, append-nil}
use mathlib.Core.Path.{◌≡◌, refl, sym, ◌∙◌, ap, subst}
use Prim.Native.Nat.{ℕ, zero, suc, ◌≤◌}
use native.Mathlib.Omega.{arith}
use lib.Dec.{eqb}
use lib.ListN.{length, take, replicate}
use borrow.Author.Tests.{eqb-false}
use Rattle.syntax.specs.Class.{Class, foreign, closing, ampersand, bar, greater, equals, blank, tilde, opening, nought, lowercase, class_of, tokens, after}
use Rattle.ipl.specs.Formula.{Formula}
use Rattle.syntax.specs.Grammar.{negation, implication, equivalence, Parses, a_letter, a_falsum, inside, no_and, no_or, no_implies, by_equal, IsFormula, Begins}
use Rattle.syntax.specs.Refusal.{Longest}
use Rattle.syntax.specs.Scan.{State, misfit, wanted, had, start, move, ends, unless_misfit, fitting, scanned}
use Rattle.syntax.proofs.Class.{blank_byte, tokens_append, after_append, after_tokens}
use Rattle.syntax.proofs.Fault.{misfit_stays, blank_stays}
use Rattle.syntax.proofs.Run.{parse_runs, misfit_run}
use Rattle.syntax.proofs.Join.{Some, not_some, Operator, is_and, is_or, is_implies, level_of, raised, join_some}

-- What may follow an operand at its own level; what closes the open parentheses.
data Tail : Bool → List Class → Type 0 where
  none : {e : Bool} → Tail e []
  more : {e : Bool} {c : Class} {f : List Class} → Operator c → Some (level_of e) f → Tail e (c ∷ f)
  equal : {f : List Class} → Some implication f → Tail false (equals ∷ f)

data Closers : List Bool → List Class → Type 0 where
  done : Closers [] []
  shut : {e : Bool} {E : List Bool} {t c : List Class} → Tail e t → Closers E c → Closers (e ∷ E) (closing ∷ (t ++ c))

-- What the tokens read so far allow: where an operand is wanted, what may still be read at the level, and closers; else any tail and closers.
abbrev Ready : State → List Class → Type 0
Ready misfit u = Unit {0}
Ready (wanted e E) u = (f c : List Class) → Some (level_of e) f → Closers E c → Some equivalence (u ++ (f ++ c))
Ready (had e E) u = (t c : List Class) → Tail e t → Closers E c → Some equivalence (u ++ (t ++ c))

tailed : {e : Bool} {f t : List Class} → Some implication f → Tail e t → Some (level_of e) (f ++ t)
tailed {e} {f} g none = subst (Some (level_of e)) (sym (append-nil f)) (raised e g)
tailed {e} g (more o h) = join_some e o g h
tailed g (equal h) = (_, by_equal g.1 h.1)

operand : {u : List Class} → Some negation u → Some implication u
operand x = (_, no_implies (no_or (no_and x.1)))

enclosed : {f : List Class} → Some equivalence f → Some implication (opening ∷ (f ++ (closing ∷ [])))
enclosed x = operand (_, inside x.1)

push : (u : List Class) (b : Class) (x : List Class) → Some equivalence (u ++ (b ∷ x)) → Some equivalence ((u ++ (b ∷ [])) ++ x)
push u b x g = subst (Some equivalence) (sym (append_assoc u (b ∷ []) x)) g

module _ (e : Bool) (E : List Bool) (u : List Class) where
  opened : Ready (wanted e E) u → (f c : List Class) → Some equivalence f → Closers (e ∷ E) c → Some equivalence (u ++ (opening ∷ (f ++ c)))
  opened r f c g (shut {t = t} {c = d} h k) = simp append_assoc at (r ((opening ∷ (f ++ (closing ∷ []))) ++ t) d (tailed (enclosed g) h) k)

  leaf_step : Ready (wanted e E) u → (b : Class) → Some negation (b ∷ []) → Ready (had e E) (u ++ (b ∷ []))
  leaf_step r b x t c g h = push u b (t ++ c) (r (b ∷ t) c (tailed (operand x) g) h)

  operator_step : Ready (had e E) u → {b : Class} → Operator b → Ready (wanted e E) (u ++ (b ∷ []))
  operator_step r {b} o f c g h = push u b (f ++ c) (r (b ∷ f) c (more o g) h)

-- One token more.
ready_step : (a : State) (b : Class) (u : List Class) → (b ≡ blank → ⊥) → Ready a u → Ready (move a b) (u ++ (b ∷ []))
unfolding move
ready_step misfit b u n r = tt
ready_step (wanted e E) foreign u n r = tt
ready_step (wanted e E) closing u n r = tt
ready_step (wanted e E) ampersand u n r = tt
ready_step (wanted e E) bar u n r = tt
ready_step (wanted e E) greater u n r = tt
ready_step (wanted e E) equals u n r = tt
ready_step (wanted e E) blank u n r = absurd (n refl)
ready_step (wanted e E) tilde u n r = λ f c g h. push u tilde (f ++ c) (r (tilde ∷ f) c (not_some g.1) h)
ready_step (wanted e E) opening u n r = λ f c g h. push u opening (f ++ c) (opened e E u r f c g h)
ready_step (wanted e E) nought u n r = leaf_step e E u r nought (_, a_falsum)
ready_step (wanted e E) (lowercase l) u n r = leaf_step e E u r (lowercase l) (_, a_letter)
ready_step (had e E) foreign u n r = tt
ready_step (had e []) closing u n r = tt
ready_step (had e (f ∷ E)) closing u n r = λ t c g h. push u closing (t ++ c) (r [] (closing ∷ (t ++ c)) none (shut g h))
ready_step (had e E) ampersand u n r = operator_step e E u r is_and
ready_step (had e E) bar u n r = operator_step e E u r is_or
ready_step (had e E) greater u n r = operator_step e E u r is_implies
ready_step (had true E) equals u n r = tt
ready_step (had false E) equals u n r = λ f c g h. push u equals (f ++ c) (r (equals ∷ f) c (equal g) h)
ready_step (had e E) blank u n r = absurd (n refl)
ready_step (had e E) tilde u n r = tt
ready_step (had e E) opening u n r = tt
ready_step (had e E) nought u n r = tt
ready_step (had e E) (lowercase l) u n r = tt

-- A text more.
ready_text : (s : List ℕ) (a : State) (u : List Class) → Ready a u → Ready (after move a (tokens s)) (u ++ tokens s)
unfolding after tokens
ready_text [] a u r = subst (Ready a) (sym (append-nil u)) r
ready_text (b ∷ s) a u r = go (λ e v q. ready_text s e v q) (eqb b 32) refl
  where
    go : ((e : State) (v : List Class) → Ready e v → Ready (after move e (tokens s)) (v ++ tokens s)) → (t : Bool) → eqb b 32 ≡ t
        → Ready (after move a (cond t (tokens s) (class_of b ∷ tokens s))) (u ++ cond t (tokens s) (class_of b ∷ tokens s))
    go ih true q = ih a u r
    go ih false q =
        subst (Ready (after move (move a (class_of b)) (tokens s))) (append_assoc u (class_of b ∷ []) (tokens s))
        (ih (move a (class_of b)) (u ++ (class_of b ∷ [])) (ready_step a (class_of b) u (λ e. eqb-false b 32 q (blank_byte b e)) r))

ready_start : Ready start []
ready_start f c g done = subst (Some equivalence) (sym (append-nil f)) g

pub scan_tokens : (s : List ℕ) → scanned s ≡ after move start (tokens s)
scan_tokens s = after_tokens move blank_stays start s

-- The scan ends with no operand wanted and nothing open exactly on formulas.
formula_ends : {u : List Class} {t : Formula} → Parses equivalence u t → ends (after move start u) ≡ true
formula_ends r = ap ends (parse_runs r []).1

pub formula_scanned : (s : List ℕ) → IsFormula s → ends (scanned s) ≡ true
formula_scanned s f = ap ends (scan_tokens s) ∙ formula_ends f.1

pub scanned_formula : (s : List ℕ) → ends (scanned s) ≡ true → IsFormula s
scanned_formula s e = go (after move start (tokens s)) (ap ends (sym (scan_tokens s)) ∙ e) (ready_text s start [] ready_start)
  where
    go : (a : State) → ends a ≡ true → Ready a (tokens s) → IsFormula s
    go misfit h r = absurd (false≢true h)
    go (wanted f E) h r = absurd (false≢true h)
    go (had f []) h r = subst (Some equivalence) (append-nil (tokens s)) (r [] [] none done)
    go (had f (g ∷ E)) h r = absurd (false≢true h)

-- What is ready begins some formula: a 0 where an operand is wanted, and the parentheses that are open.
closing_bytes : List Bool → List ℕ
closing_bytes E = replicate (length E) 41

closers : (E : List Bool) → Closers E (tokens (closing_bytes E))
unfolding closing_bytes tokens class_of
closers [] = done
closers (e ∷ E) = shut none (closers E)

Fit : State → Type 0
Fit misfit = ⊥
Fit (wanted e E) = Unit {0}
Fit (had e E) = Unit {0}

ready_begins : (a : State) (u : List ℕ) → Fit a → Ready a (tokens u) → Begins u
unfolding Fit tokens class_of
ready_begins misfit u f r = absurd f
ready_begins (wanted e E) u f r =
    let end = closing_bytes E in
    (48 ∷ end, subst (Some equivalence) (sym (tokens_append u (48 ∷ end))) (r (nought ∷ []) (tokens end) (raised e (operand (_, a_falsum))) (closers E)))
ready_begins (had e E) u f r = let end = closing_bytes E in (end, subst (Some equivalence) (sym (tokens_append u end)) (r [] (tokens end) none (closers E)))

-- The bytes before the place fit, and no more of them do.
place_fits : (s : List ℕ) (a : State) → Fit a → Fit (after move a (map class_of (take (fitting a (map class_of s)) s)))
unfolding Fit after fitting
place_fits [] a f = f
place_fits (b ∷ s) a fit = go (λ e g. place_fits s e g) (move a (class_of b)) refl
  where
    go : ((e : State) → Fit e → Fit (after move e (map class_of (take (fitting e (map class_of s)) s)))) → (m : State) → move a (class_of b) ≡ m
        → Fit (after move a (map class_of (take (unless_misfit m (suc (fitting m (map class_of s)))) (b ∷ s))))
    go ih misfit e = fit
    go ih (wanted f E) e = subst (λ (x : State). Fit (after move x (map class_of (take (fitting (wanted f E) (map class_of s)) s)))) (sym e) (ih (wanted f E) tt)
    go ih (had f E) e = subst (λ (x : State). Fit (after move x (map class_of (take (fitting (had f E) (map class_of s)) s)))) (sym e) (ih (had f E) tt)

place_last : (s : List ℕ) (a : State) (k : ℕ) → k ≤ length s → Fit (after move a (map class_of (take k s))) → k ≤ fitting a (map class_of s)
unfolding Fit after fitting
place_last s a zero h f = omega arith
place_last [] a (suc k) h f = h
place_last (b ∷ s) a (suc k) h f = go (λ e g. place_last s e k (omega arith) g) (move a (class_of b)) refl f
  where
    go : ((e : State) → Fit (after move e (map class_of (take k s))) → k ≤ fitting e (map class_of s)) → (m : State) → move a (class_of b) ≡ m
        → Fit (after move (move a (class_of b)) (map class_of (take k s))) → suc k ≤ unless_misfit m (suc (fitting m (map class_of s)))
    go ih misfit e g = absurd (misfit_fit (subst Fit (ap (λ (x : State). after move x (map class_of (take k s))) e ∙ misfit_stays (map class_of (take k s))) g))
      where
        misfit_fit : Fit misfit → ⊥
        misfit_fit x = x
    go ih (wanted f E) e g = let z = ih (wanted f E) (rw e at g) in omega arith
    go ih (had f E) e g = let z = ih (had f E) (rw e at g) in omega arith

place_within : (s : List ℕ) (a : State) → fitting a (map class_of s) ≤ length s
unfolding fitting
place_within [] a = omega arith
place_within (b ∷ s) a = go (move a (class_of b)) (place_within s (move a (class_of b)))
  where
    go : (m : State) → fitting m (map class_of s) ≤ length s → unless_misfit m (suc (fitting m (map class_of s))) ≤ suc (length s)
    go misfit h = omega arith
    go (wanted e E) h = omega arith
    go (had e E) h = omega arith

begins_fit : (u : List ℕ) → Begins u → Fit (after move start (map class_of u))
begins_fit u b = subst Fit (sym (after_tokens move blank_stays start u)) (go (after move start (tokens u)) refl)
  where
    go : (m : State) → after move start (tokens u) ≡ m → Fit m
    go misfit e =
        absurd (misfit_run (tokens b.0) (
        ap ends (
        ap (λ (x : State). after move x (tokens b.0)) (sym e)
        ∙ sym (after_append move start (tokens u) (tokens b.0))
        ∙ sym (ap (after move start) (tokens_append u b.0))
        )
        ∙ formula_ends b.1.1
        ))
    go (wanted f E) e = unfold Fit in tt
    go (had f E) e = unfold Fit in tt

-- "The length of the longest beginning that begins some formula", for every text.
pub longest : (s : List ℕ) → Longest s (fitting start (map class_of s))
unfolding Fit
longest s =
    let u = take (fitting start (map class_of s)) s in
    let a = after move start (tokens u) in
    record {
      within = place_within s start;
      begins = ready_begins a u (subst Fit (after_tokens move blank_stays start u) (place_fits s start tt)) (ready_text u start [] ready_start);
      last = λ k h b. place_last s start k h (begins_fit (take k s) b);
    }
