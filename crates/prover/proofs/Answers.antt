-- Laws of a question's answer: the end of its search, and the number of its refusal.
use mathlib.Core.Bool.{Bool, true, false, cond}
use mathlib.Core.List.{List}
use mathlib.Core.Path.{◌≡◌, refl, sym, ap, ap₂, ◌∙◌, subst}
use Prim.Native.Nat.{ℕ}
use borrow.Author.Tests.{ne_eqb}
use Rattle.atoms.specs.Words.{row_of}
use Rattle.ipl.specs.Clause.{Flat}
use Rattle.ipl.specs.Search.{Step, Outcome, refused, search}
use Rattle.ipl.specs.Authors.{is_author}
use Rattle.ipl.specs.Book.{Book, goal_refusal, answer, question_refusal}
use Rattle.ipl.proofs.Lists.{tabulate_length}
use Rattle.ipl.proofs.Authors.{author_zero}
use Rattle.ipl.proofs.Book.{answer_searched}
use Rattle.std.specs.Prelude.{Option, None, Result, Ok, Err}
use Rattle.refusal.specs.Numbers.{number_of, place_of}
use Rattle.refusal.specs.declared.Refusal.{Refusal}
use Rattle.prover.specs.State.{step_row, implications_of, steps_of, book}
use Rattle.prover.specs.InRange.{in_range}
use Rattle.prover.specs.Calls.{question_number, outcome, AskedAs, Asked}
use Rattle.prover.specs.Settling.{whole, Concluded}
use Rattle.prover.specs.Search.{flats_in, state_of, Laid, Ended}
use Rattle.prover.specs.declared.Session.{Session}
use Rattle.prover.specs.declared.Held.TheVariants as held
use Rattle.prover.specs.Told as verdict
use Rattle.prover.specs.Told.{place_told, answered, Answered}
use Rattle.prover.specs.declared.question.Search.{Search}
use Rattle.prover.specs.declared.question.End.{End}
use Rattle.prover.specs.declared.question.End.TheVariants as end
use Rattle.prover.proofs.Refusals.{number_zero, is_refusal}

-- ---- the search's end
module _ (s : Session) (a g : ℕ) (o : Outcome) (t : Search) where
  -- An answer to what the search came to is one to o.
  as_ended : (end : Outcome) → o ≡ end → (r : Answered) → AskedAs s a g end r → AskedAs s a g o r
  as_ended end same r x = subst (λ (o : Outcome). AskedAs s a g o r) (sym same) x

  pub valid_asked : Ended o t (Ok end.Valid) → (r : Answered) → Concluded s a (state_of t) (verdict.Valid t.steps.count) (held.Valid g) r → AskedAs s a g o r
  valid_asked h r x = as_ended _ h.0 r (
    record { verdict = x.0.verdict ∙ ap verdict.Valid (sym (tabulate_length (step_row t.steps) t.steps.count)); kept = x.0.kept; shows = x.0.shows },
    x.1,
  )

  pub refuted_asked : Ended o t (Ok end.Refuted) → (r : Answered) → Concluded s a (state_of t) (verdict.Refuted t.worlds.count) (held.Refuted g) r → AskedAs s a g o r
  refuted_asked h r x = as_ended _ h.0 r (
    record { verdict = x.0.verdict ∙ ap verdict.Refuted (sym (tabulate_length (row_of t.worlds.sets) t.worlds.count)); kept = x.0.kept; shows = x.0.shows },
    x.1,
  )

  pub full_asked : (e : Refusal) → Ended o t (Err e) → AskedAs s a g o (answered (Err e) s)
  full_asked e h = as_ended (refused (number_of e)) h.0 (answered (Err e) s) (ap (λ (p : Option ℕ). verdict.Refused (number_of e) (place_told p)) h.1, refl)

-- The search over a session's clauses is the whole one.
pub ended_whole : (s : Session) (g : ℕ) (fresh t : Search) (r : Result End Refusal) → Laid s.flats s.steps s.implications fresh
    → Ended (search s.n (flats_in fresh) (implications_of s.implications) g (steps_of fresh.steps)) t r → Ended (whole s g) t r
ended_whole s g fresh t r l h =
    subst (λ (F : List Flat). Ended (search s.n F (implications_of s.implications) g (steps_of s.steps)) t r) l.same_flats
    (subst (λ (S : List Step). Ended (search s.n (flats_in fresh) (implications_of s.implications) g S) t r) l.same_steps h)

-- ---- the refusals before the search
-- A question that is not refused comes from an author, on a session in range, with a goal in range.
pub record Unrefused (s : Session) (a g : ℕ) : Type 0 where
  pub is_in_range : in_range s ≡ true
  pub author : is_author a ≡ true
  pub goal : goal_refusal (book s) g ≡ 0

pub question_zero : (s : Session) (a g : ℕ) → question_number s a g ≡ 0 → Unrefused s a g
question_zero s a g e =
    let z = number_zero s (question_refusal (book s) a g) e in
    let y = author_zero a (goal_refusal (book s) g) z.1 in
    record { is_in_range = z.0; author = y.0; goal = y.1 }

pub asked_whole : (s : Session) (a g : ℕ) → question_number s a g ≡ 0 → (r : Answered) → AskedAs s a g (whole s g) r → Asked s a g r
asked_whole s a g e r x = let z = question_zero s a g e in rw (z.is_in_range, z.author, answer_searched (book s) g z.goal) x

-- A goal that is refused gets its number for an answer.
pub answer_refused : (k : Book) (g : ℕ) → (goal_refusal k g ≡ 0 → ⊥) → answer k g ≡ refused (goal_refusal k g)
unfolding answer
answer_refused k g d = rw (ne_eqb (goal_refusal k g) 0 d)

refused_outcome : (s : Session) (a g : ℕ) → (question_number s a g ≡ 0 → ⊥) → outcome s a g ≡ refused (question_number s a g)
refused_outcome s a g = by_tests (in_range s) (is_author a)
  where
    by_tests : (b c : Bool) → (cond b (cond c (goal_refusal (book s) g) 20) 5 ≡ 0 → ⊥)
        → cond b (cond c (answer (book s) g) (refused 20)) (refused 5) ≡ refused (cond b (cond c (goal_refusal (book s) g) 20) 5)
    by_tests true true d = answer_refused (book s) g d
    by_tests true false d = refl
    by_tests false c d = refl

pub asked_refused : (s : Session) (a g : ℕ) (e : Refusal) → number_of e ≡ question_number s a g → place_of e ≡ None → Asked s a g (answered (Err e) s)
asked_refused s a g e met placeless =
    subst (λ (o : Outcome). AskedAs s a g o (answered (Err e) s)) (sym (refused_outcome s a g (λ z. is_refusal e (met ∙ z))))
    (ap₂ (λ (k : ℕ) (p : Option ℕ). verdict.Refused k (place_told p)) met placeless, refl)
