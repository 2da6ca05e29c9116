-- Laws of a whole search in the tables, turn by turn.
use mathlib.Core.List.{List}
use mathlib.Core.Path.{◌≡◌, refl, sym, ap, ap₂, ◌∙◌, subst}
use Prim.Native.Nat.{ℕ, suc, ◌+◌, ◌-◌, ◌≤◌, ◌<◌}
use native.Mathlib.Omega.{arith}
use lib.ListN.{length}
use borrow.Author.Tests.{le-ltb}
use Rattle.atoms.specs.Words.{row_of}
use Rattle.ipl.specs.Lists.{tabulate}
use Rattle.ipl.specs.Clause.{Flat}
use Rattle.ipl.specs.Range.{world_table, step_table}
use Rattle.ipl.specs.Search.{State, Outcome, done, more, go_on, most_turns, turn, run, search}
use Rattle.ipl.proofs.Lists.{tabulate_length}
use Rattle.ipl.proofs.Limits.{left, Closer, turn_closer}
use Rattle.std.specs.Prelude as std
use Rattle.std.specs.Prelude.{Ok, Err}
use Rattle.refusal.specs.declared.Refusal.{Refusal}
use Rattle.prover.specs.State.{step_row, implications_of, steps_of, worlds_of}
use Rattle.prover.specs.Search.{flats_in, state_of, TurnRight, turns_left, Underway, Fresh, Ended}
use Rattle.prover.specs.declared.Implications.{Implications}
use Rattle.prover.specs.declared.question.Search.{Search}
use Rattle.prover.specs.declared.question.End.{End}
use Rattle.prover.specs.declared.question.End.TheVariants as end

go_on_within : (rest : State → Outcome) (s : State) → length s.worlds ≤ world_table → length s.steps ≤ step_table → go_on rest (more s) ≡ rest s
unfolding go_on
go_on_within rest s h k = rw (le-ltb world_table (length s.worlds) h, le-ltb step_table (length s.steps) k)

go_on_done : (rest : State → Outcome) (o : Outcome) → go_on rest (done o) ≡ o
unfolding go_on
go_on_done rest o = refl

left_is : (s : Search) → left (steps_of s.steps) (worlds_of s.worlds) ≡ turns_left s
unfolding left
left_is s = rw (tabulate_length (step_row s.steps) s.steps.count, tabulate_length (row_of s.worlds.sets) s.worlds.count)

module _ {n g : ℕ} {x : Implications} where
  pub underway : (s : Search) → Fresh x s → Underway n g x (flats_in s) (search n (flats_in s) (implications_of x) g (steps_of s.steps)) s
  unfolding search tabulate
  underway s h = record {
    working = h.working;
    flats = refl;
    turns = omega (arith, h.no_worlds, h.no_questions);
    rest = ap₂ (λ (W : List ℕ) (q : ℕ). run n (flats_in s) (implications_of x) g (most_turns - q) (record { steps = steps_of s.steps; worlds = W; questions = q }))
        (ap (tabulate (row_of s.worlds.sets)) h.no_worlds) h.no_questions;
  }

  module _ {F : List Flat} {o : Outcome} {s : Search} (w : Underway n g x F o s) where
    -- The outcome of the turns after the next.
    abbrev rest : State → Outcome
    rest = run n F (implications_of x) g (most_turns - (s.questions + 1))

    run_next : (turns rest : ℕ) → turns ≡ suc rest → run n F (implications_of x) g turns (state_of s) ≡ go_on (run n F (implications_of x) g rest) (turn n F (implications_of x) g (state_of s))
    unfolding run
    run_next turns rest e = ap (λ (k : ℕ). run n F (implications_of x) g k (state_of s)) e

    by_turn : o ≡ go_on rest (turn n (flats_in s) (implications_of x) g (state_of s))
    by_turn = sym w.rest ∙ run_next (most_turns - s.questions) (most_turns - (s.questions + 1)) (omega (arith, w.turns)) ∙ rw w.flats

    by_done : (end : Outcome) → turn n (flats_in s) (implications_of x) g (state_of s) ≡ done end → o ≡ end
    by_done end e = by_turn ∙ ap (go_on rest) e ∙ go_on_done _ end

    pub few_questions : s.questions < most_turns
    few_questions = omega (arith, w.turns)

    -- ---- the ends
    pub ended : (t : Search) (e : End) → TurnRight n g x s t (Ok (std.Some e)) → Ended o t (Ok e)
    ended t end.Valid h = (by_done _ h.0, omega (arith, few_questions, h.1))
    ended t end.Refuted h = (by_done _ h.0, omega (arith, few_questions, h.1))

    pub refused_end : (t : Search) (e : Refusal) → TurnRight n g x s t (Err e) → Ended o t (Err e)
    refused_end t e h = (by_turn ∙ h.0 rest, h.1)

    -- ---- the next turn
    module _ (t : Search) (h : TurnRight n g x s t (Ok std.None)) where
      few_worlds : length (worlds_of t.worlds) ≤ world_table
      few_worlds = omega (arith, tabulate_length (row_of t.worlds.sets) t.worlds.count, h.1.few_worlds)

      few_steps : length (steps_of t.steps) ≤ step_table
      few_steps = omega (arith, tabulate_length (step_row t.steps) t.steps.count, h.1.few_steps)

      pub closer : turns_left t < turns_left s
      closer =
          subst (λ (a : ℕ). a < turns_left s) (left_is t)
          (subst (λ (b : ℕ). left (steps_of t.steps) (worlds_of t.worlds) < b) (left_is s)
          (subst (Closer (steps_of s.steps) (worlds_of s.worlds)) h.0 (turn_closer n (flats_in s) (implications_of x) g (steps_of s.steps) (worlds_of s.worlds) s.questions)
          (few_worlds, few_steps)))

      pub underway_next : Underway n g x F o t
      underway_next = record {
        working = h.1;
        flats = h.2 ∙ w.flats;
        turns = omega (arith, closer, h.3, w.turns);
        rest = sym (by_turn ∙ ap (go_on rest) h.0
            ∙ go_on_within _ (state_of t) few_worlds few_steps
            ∙ ap (λ (k : ℕ). run n F (implications_of x) g (most_turns - k) (state_of t)) (sym h.3));
      }
