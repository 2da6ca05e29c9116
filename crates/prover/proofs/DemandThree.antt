-- Demand 3: the theorem, for every run of calls.
use mathlib.Core.Bool.{true}
use mathlib.Core.List.{List, [], ◌∷◌}
use mathlib.Core.Path.{◌≡◌, refl, sym, subst}
use Rattle.ipl.specs.Book.{Book, opened, addition_refusal, refusal}
use Rattle.ipl.proofs.Book.{Reached, opened_reached, next_reached, claims}
use Rattle.prover.specs.State.{book}
use Rattle.prover.specs.InRange.{in_range}
use Rattle.prover.specs.Work.{works_of}
use Rattle.prover.specs.Calls.{NothingHeld, VerdictKept}
use Rattle.prover.specs.Demand.{Made, add_flat, add_implication, question, set_mark, return_to, page, call_of, Returned, session_of, Meets, Run, AnswerIs, Follows, DemandThree}
use Rattle.prover.specs.declared.Work.{Work}
use Rattle.prover.specs.declared.Session.{Session}
use Rattle.prover.proofs.Keeping.{Kept, nothing_in_range, change_answer, dropped_kept, set_kept, asked_as, asked_kept}
use Rattle.prover.proofs.PageRuns.{page_answer, page_kept}

-- ---- each call

module _ (s : Session) (is_in_range : in_range s ≡ true) (r : Reached (book s)) where
  call_answer : (c : Made) (x : Returned c) → Meets s c x → AnswerIs (book s) s c x
  unfolding refusal addition_refusal
  call_answer (add_flat left right) x m = change_answer s is_in_range r (call_of (add_flat left right)) (NothingHeld (works_of s.authors)) x m
  call_answer (add_implication a b c) x m = change_answer s is_in_range r (call_of (add_implication a b c)) (NothingHeld (works_of s.authors)) x m
  call_answer (question a g) x m = (asked_as s is_in_range r a g x m).0
  call_answer (set_mark j) x m = change_answer s is_in_range r (call_of (set_mark j)) (VerdictKept (works_of s.authors) s) x m
  call_answer (return_to j) x m = change_answer s is_in_range r (call_of (return_to j)) (NothingHeld (works_of s.authors)) x m
  call_answer (page a xs) x m = page_answer s is_in_range r a xs x m

  pub call_kept : (c : Made) (x : Returned c) → Meets s c x → Kept s (call_of c) (session_of c x)
  unfolding refusal addition_refusal
  call_kept (add_flat left right) x m = dropped_kept s is_in_range r (call_of (add_flat left right)) x m
  call_kept (add_implication a b c) x m = dropped_kept s is_in_range r (call_of (add_implication a b c)) x m
  call_kept (question a g) x m = asked_kept s is_in_range r a g x (asked_as s is_in_range r a g x m)
  call_kept (set_mark j) x m = set_kept s is_in_range r j x m
  call_kept (return_to j) x m = dropped_kept s is_in_range r (call_of (return_to j)) x m
  call_kept (page a xs) x m = page_kept s is_in_range r a xs x m

-- ---- every run
pub follows : (cs : List Made) (s : Session) → in_range s ≡ true → Reached (book s) → (run : Run s cs) → Follows (book s) s cs run
follows [] s i r run = refl
follows (c ∷ cs) s i r run =
    let kept : Kept s (call_of c) (session_of c run.0) = call_kept s i r c run.0 run.1 in (
      refl,
      call_answer s i r c run.0 run.1,
      (claims (call_of c ∷ []) (book s) r).0,
      subst (λ (k : Book). Follows k (session_of c run.0) cs run.2) kept.0
          (follows cs (session_of c run.0) kept.1 (subst Reached (sym kept.0) (next_reached (book s) (call_of c) r)) run.2),
    )

-- From a session that holds a reached book and no verdict.
pub session_follows : {W : List Work} (k : Book) → Reached k → (s : Session) → book s ≡ k → NothingHeld W s → (cs : List Made) (run : Run s cs) → Follows k s cs run
session_follows {W} k reached s e nothing cs run =
    let r : Reached (book s) = subst Reached (sym e) reached in
    subst (λ (k : Book). Follows k s cs run) e (follows cs s (nothing_in_range W s r nothing) r run)

pub demand_three : DemandThree
demand_three n o h cs run = (h.refused, session_follows (opened n) (opened_reached n) o.session h.holds h.nothing cs run)
