-- A list of calls on sessions is refused as often as the book refuses it.
use mathlib.Core.Bool.{Bool, true, false, cond}
use mathlib.Core.List.{List}
use mathlib.Core.Path.{◌≡◌, sym, ap, ◌∙◌, subst}
use Prim.Native.Nat.{ℕ, suc, ◌+◌, ◌/◌, ◌≤◌}
use native.Mathlib.Omega.{arith}
use lib.Dec.{eqb}
use lib.ListN.{length}
use Rattle.ipl.specs.Authors.{program}
use Rattle.ipl.specs.Search.{Outcome, valid, refuted, refused, unfinished}
use Rattle.ipl.specs.Book.{Book, add_flat, add_implication, Call, add, question, opened, addition_refusal, refusal, next, answer_to, number_of}
use Rattle.ipl.proofs.Book.{Reached, opened_reached, next_reached}
use Rattle.prover.specs.State.{book}
use Rattle.prover.specs.InRange.{in_range}
use Rattle.prover.specs.Work.{works_of, none_done}
use Rattle.prover.specs.Calls.{NothingHeld, Opened, VerdictIs}
use Rattle.prover.specs.Demand as made
use Rattle.prover.specs.declared.Session.{Session}
use Rattle.prover.specs.Told.{Changed, Answered}
use Rattle.prover.proofs.Keeping.{ByBook, Kept, nothing_in_range, change_answer, dropped_kept, asked_as}
use Rattle.prover.proofs.DemandThree.{call_kept}
use Rattle.bench.specs.Calls.{Act, opening, adding, asking, act_at, number_met, book_after, one_if_refused, refusals_from, refusals, number_told, Called}

-- A session in range that holds the reached book k.
pub record Stands (k : Book) (s : Session) : Type 0 where
  pub holds : book s ≡ k
  pub is_in_range : in_range s ≡ true
  pub reached : Reached (book s)

opened_stands : (n : ℕ) (r : Changed) → Opened n r → Stands (opened n) r.session
opened_stands n r o =
    let reached : Reached (book r.session) = subst Reached (sym o.holds) (opened_reached n) in
    record { holds = o.holds; is_in_range = nothing_in_range none_done r.session reached o.nothing; reached = reached }

verdict_number : (g : ℕ) (x : Answered) (o : Outcome) → VerdictIs g o x → number_told x.verdict ≡ number_of o
unfolding number_of
verdict_number g x (valid end) h = ap number_told h.verdict
verdict_number g x (refuted end) h = ap number_told h.verdict
verdict_number g x (refused number) h = ap number_told h
verdict_number g x unfinished h = absurd h

-- An act was done: its number is the book's, and the session goes on with the book after it.
abbrev Done : Book → Act → Changed → Type 0
Done k x r = (r.refusal ≡ number_met k x) × Stands (book_after k x) r.session

module _ (s : Session) (is_in_range : in_range s ≡ true) (reached : Reached (book s)) where
  kept_stands : (c : Call) (u : Session) → Kept s c u → Stands (next (book s) c) u
  kept_stands c u kept = record { holds = kept.0; is_in_range = kept.1; reached = subst Reached (sym kept.0) (next_reached (book s) c reached) }

  added_done : (c : Call) (r : Changed) → ByBook s c (NothingHeld (works_of s.authors)) r
      → (r.refusal ≡ refusal (book s) c) × Stands (next (book s) c) r.session
  added_done c r m = (change_answer s is_in_range reached c (NothingHeld (works_of s.authors)) r m, kept_stands c r.session (dropped_kept s is_in_range reached c r m))

  called_done : (x : Act) (r : Changed) → Called s x r → Done (book s) x r
  unfolding refusal addition_refusal
  called_done (opening n) r o = (o.refused, opened_stands n r o)
  called_done (adding (add_flat f)) r m = added_done (add (add_flat f)) r m
  called_done (adding (add_implication i)) r m = added_done (add (add_implication i)) r m
  called_done (asking g) r (x, m, e, p) = (
    p ∙ verdict_number g x (answer_to (book s) program g) (asked_as s is_in_range reached program g x m).0,
    subst (Stands (next (book s) (question program g))) (sym e) (kept_stands (question program g) x.session (call_kept s is_in_range reached (made.question program g) x m)),
  )

pub one_at_most : (number : ℕ) → one_if_refused number ≤ 1
one_at_most number = elim (eqb number 0) as (λ (b : Bool). cond {A = ℕ} b 0 1 ≤ 1) [
  | true ↦ omega arith
  | false ↦ omega arith
]

-- Before act i, with so many refused.
pub record Counted (calls sets : List ℕ) (s : Session) (refused i : ℕ) : Type 0 where
  pub few : refused ≤ i
  pub is_in_range : in_range s ≡ true
  pub reached : Reached (book s)
  pub rest : (more : ℕ) → i + more ≡ length calls / 4 → refused + refusals_from calls sets more i (book s) ≡ refusals calls sets

module _ (calls sets : List ℕ) where
  all_left : (more : ℕ) → 0 + more ≡ length calls / 4 → 0 + refusals_from calls sets more 0 (opened 1) ≡ refusals calls sets
  all_left more e =
      let all : more ≡ length calls / 4 = omega (arith, e) in
      let same : refusals_from calls sets more 0 (opened 1) ≡ refusals calls sets = ap (λ (m : ℕ). refusals_from calls sets m 0 (opened 1)) all in
      omega (arith, same)

  pub none_counted : (r : Changed) → Opened 1 r → Counted calls sets r.session 0 0
  none_counted r o =
      let stands = opened_stands 1 r o in
      record {
        few = omega arith;
        is_in_range = stands.is_in_range;
        reached = stands.reached;
        rest = λ more e. rw stands.holds (all_left more e);
      }

  module _ {s : Session} {refused i : ℕ} (h : Counted calls sets s refused i) where
    pub next_counted : (r : Changed) → Called s (act_at calls sets i) r → Counted calls sets r.session (refused + one_if_refused r.refusal) (i + 1)
    unfolding refusals_from
    next_counted r m =
        let done = called_done s h.is_in_range h.reached (act_at calls sets i) r m in
        let stands = done.1 in
        record {
          few = omega (arith, h.few, one_at_most r.refusal);
          is_in_range = stands.is_in_range;
          reached = stands.reached;
          rest = λ more e. rw (stands.holds, done.0) (omega (arith, h.rest (suc more) (omega (arith, e))));
        }

    pub all_counted : i ≡ length calls / 4 → refused ≡ refusals calls sets
    unfolding refusals_from
    all_counted e = omega (arith, h.rest 0 (omega (arith, e)))
