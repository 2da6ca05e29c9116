-- What the screen answers is right: the theorem.
use mathlib.Core.Bool.{Bool, true}
use mathlib.Core.List.{List, [], ◌∷◌, map}
use mathlib.Core.Logic.{inl, inr, ◌↔◌}
use mathlib.Core.Option.{Option, none, some}
use mathlib.Core.Path.{◌≡◌, refl, sym, ap, ◌∙◌, subst}
use Prim.Native.Nat.{ℕ, ◌^◌, ◌≤◌, ◌<◌}
use native.Mathlib.Omega.{arith}
use lib.Dec.{T, eqb, ltb}
use lib.ListN.{length, length-map}
use borrow.Author.Tests.{ltb-true, ltb-false}
use Rattle.atoms.proofs.Truth.{true_T, false_T, by_cond}
use Rattle.std.specs.Prelude.{Result, Ok, Err}
use Rattle.refusal.specs.declared.Refusal.{Refusal}
use Rattle.ipl.specs.First.{first_failing, FirstFailing}
use Rattle.ipl.specs.Lists.{All}
use Rattle.ipl.specs.Formula.{Formula}
use Rattle.ipl.specs.Kripke.{Forces}
use Rattle.ipl.proofs.First.{FirstSaid, first_said}
use Rattle.syntax.specs.Refusal as text
use Rattle.syntax.specs.Judge.{Judgement, refused, accepted, judge, Right}
use Rattle.syntax.proofs.Judge.{judge_right, judge_only}
use Rattle.syntax.proofs.Unique.{unique}
use Rattle.fork.specs.Fork.{fork, whole, set_count}
use Rattle.fork.specs.Screen as screen
use Rattle.fork.specs.Screen.{most_letters, letters, assignment, set_of, gives_whole, Screening, falls_at, screened, screening}
use Rattle.fork.specs.Answer.{told, ScreenedAs, HoldsOnFork, on_letters, IsAssignment, FirstRefuting, Screenable, Says, ScreenRight}
use Rattle.fork.specs.declared.Screened.{Screened}
use Rattle.fork.specs.declared.Screened.TheVariants.{Passes, Falls}
use Rattle.fork.proofs.Valuation.{root_forces, valuation_model, sets_from, from_set, from_same}
use Rattle.fork.proofs.Digits.{assignment_length, assignment_sets, number_of, number_below_lem, assignment_number, number_back, before_less}
use Rattle.fork.proofs.Dependence.{letters_decide}

-- ---- sets of letters

set_bounded : (L sets : List ℕ) (l : ℕ) → All (λ s. s ≤ whole) sets → set_of L sets l ≤ whole
unfolding set_of
set_bounded [] sets l h = omega arith
set_bounded (x ∷ L) [] l h = omega arith
set_bounded (x ∷ L) (s ∷ sets) l h =
    by_cond (λ (s : ℕ). s ≤ whole) (eqb x l) s (set_of L sets l) (λ e. h.0) (λ e. set_bounded L sets l h.1)

map_sets : (v : ℕ → ℕ) → ((l : ℕ) → v l ≤ whole) → (L : List ℕ) → All (λ s. s ≤ whole) (map v L)
map_sets v h [] = tt
map_sets v h (l ∷ L) = (h l, map_sets v h L)

-- ---- a formula under every assignment

module _ (f : Formula) where
  abbrev k : ℕ
  k = length (letters f)

  abbrev test : ℕ → Bool
  test n = gives_whole f (assignment k n)

  whole_forces : (sets : List ℕ) → All (λ s. s ≤ whole) sets → T (gives_whole f sets) ↔ Forces (fork (on_letters f sets)) 0 f
  unfolding gives_whole
  whole_forces sets h = root_forces (on_letters f sets) (set_of (letters f) sets) (λ l. set_bounded (letters f) sets l h) (λ w l hw. refl) f

  -- Sets of the letters are tested at their number.
  number_tests : (sets : List ℕ) → IsAssignment k sets → T (test (number_of sets)) → T (gives_whole f sets)
  number_tests sets a = subst (λ (b : List ℕ). T (gives_whole f b)) (ap (λ (j : ℕ). assignment j (number_of sets)) (sym a.0) ∙ assignment_number sets a.1)

  number_inside : (sets : List ℕ) → IsAssignment k sets → number_of sets < set_count ^ k
  number_inside sets a = subst (λ (j : ℕ). number_of sets < set_count ^ j) a.0 (number_below_lem sets a.1)

  -- The whole under every assignment is the whole under any sets.
  holds_on_fork : ((n : ℕ) → n < set_count ^ k → test n ≡ true) → HoldsOnFork f
  unfolding gives_whole
  holds_on_fork every holds m =
      let v = sets_from holds in
      let sets = map v (letters f) in
      let a : IsAssignment k sets = (length-map (letters f) v, map_sets v (from_set holds) (letters f)) in
      (root_forces holds v (from_set holds) (from_same holds m) f).0
      (subst (λ (s : ℕ). T (eqb s whole)) (letters_decide v f) (number_tests sets a (true_T (every (number_of sets) (number_inside sets a)))))

  first_refuting : (n : ℕ) → FirstFailing test (set_count ^ k) n → FirstRefuting f (assignment k n)
  first_refuting n h =
      let sets = assignment k n in
      record {
        assigned = (assignment_length k n, assignment_sets k n);
        model = valuation_model (set_of (letters f) sets);
        unforced = λ z. false_T h.fails ((whole_forces sets (assignment_sets k n)).1 z);
        first = λ b a l.
            let less = before_less b sets (a.0 ∙ sym (assignment_length k n)) a.1 l in
            (whole_forces b a.1).0 (number_tests b a (true_T (h.before (number_of b) (omega (arith, less, number_back k n h.below)))));
      }

-- ---- a text

module _ (s : List ℕ) where
  not_both : (number place : ℕ) (f : Formula) → text.Refused s number place → text.Accepted s f → ⊥
  not_both number place f x a =
      let e : refused number place ≡ accepted f = sym (judge_only s (refused number place) x) ∙ judge_only s (accepted f) a in
      let z : ◌≡◌ {A = ℕ} 0 1 = cc in
      omega arith

  one_formula : (f g : Formula) → text.Accepted s f → text.Accepted s g → f ≡ g
  one_formula f g a b = unique s f g a.reads b.reads

  exactly : (o : Screening) → Says s o → (f : Formula) → Screenable s f → (o ≡ screen.passes) ↔ HoldsOnFork f
  exactly (screen.refused number place) (inl x) f c = absurd (not_both number place f x c.accepted)
  exactly (screen.refused number place) (inr x) f c =
      absurd (omega (arith, x.many, c.few, ap (λ (g : Formula). length (letters g)) (one_formula f x.formula c.accepted x.accepted)))
  exactly screen.passes (g, d, h) f c = (λ e. subst HoldsOnFork (one_formula g f d.accepted c.accepted) h, λ e. refl)
  exactly (screen.falls sets) (g, d, h) f c = (
    λ e. cc,
    λ e. absurd (h.unforced (subst HoldsOnFork (one_formula f g c.accepted d.accepted) e (on_letters g sets) h.model)),
  )

  screened_says : (f : Formula) → Screenable s f → (o : Option ℕ) → FirstSaid (test f) (set_count ^ k f) o → Says s (falls_at (k f) o)
  screened_says f c none h = (f, c, holds_on_fork f h)
  screened_says f c (some n) h = (f, c, first_refuting f n h)

  by_judgement : (j : Judgement) → Right s j → Says s (screening j)
  unfolding screening screened
  by_judgement (refused number place) x = inl x
  by_judgement (accepted f) x =
      by_cond (Says s) (ltb most_letters (k f)) (screen.refused 22 0) (screened f)
      (λ t. inr (record { formula = f; accepted = x; many = ltb-true most_letters (k f) t; number_is = refl; place_is = refl }))
      (λ t.
      screened_says f (record { accepted = x; few = omega (arith, ltb-false most_letters (k f) t) })
      (first_failing (test f) (set_count ^ k f)) (first_said (test f) (set_count ^ k f)))

  -- What is told of a text is so.
  pub screening_says : Says s (screening (judge s))
  screening_says = by_judgement (judge s) (judge_right s)

told_passes : (r : Result Screened Refusal) → told r ≡ screen.passes → r ≡ Ok Passes
told_passes (Err e) q = cc
told_passes (Ok Passes) q = refl
told_passes (Ok (Falls sets)) q = cc

-- For every text, and every answer as the contract states it.
pub screen_right : (s : List ℕ) (r : Result Screened Refusal) → ScreenedAs (screening (judge s)) r → ScreenRight s r
screen_right s r a =
    let says = subst (Says s) (sym a) (screening_says s) in
    record {
      says = says;
      passes_exactly = λ f c. let x = exactly s (told r) says f c in (λ e. x.0 (ap told e), λ h. told_passes r (x.1 h));
    }
