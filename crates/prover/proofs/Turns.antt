-- Laws of one turn in the tables: each way that it can go is that of the definition.
use mathlib.Core.Bool.{◌||◌}
use mathlib.Core.List.{List, [], ◌∷◌, ◌++◌}
use mathlib.Core.Option.{Option, none, some}
use mathlib.Core.Path.{◌≡◌, refl, sym, ap, ap₂, ◌∙◌, subst}
use Prim.Native.Nat.{ℕ, suc, ◌+◌, ◌≤◌, ◌<◌, min, zero-le}
use native.Mathlib.Decide.{dec_lt}
use native.Mathlib.Nat.{not-suc-le-zero, add_assoc}
use native.Mathlib.Numerals.{add-one}
use native.Mathlib.Omega.{arith}
use lib.Dec.{T}
use lib.ListN.{length, length-append, length-set}
use borrow.Author.Tests.{lt-ltb}
use Rattle.atoms.specs.Sets.{has, limit, union, insert}
use Rattle.atoms.specs.Words.{num, row_of, single_or_empty, RowSet}
use Rattle.atoms.proofs.Machine.{same_rows, single_bits}
use Rattle.atoms.proofs.Truth.{T_or, T_inl, T_inr}
use mathlib.Core.Logic.{inl, inr}
use Rattle.ipl.specs.Lists.{any, tabulate}
use Rattle.ipl.specs.Clause.{Flat, Implication, beyond, realizes}
use Rattle.ipl.specs.Range.{world_table, step_table}
use Rattle.ipl.specs.Question.{ask}
use Rattle.ipl.specs.Search as S
use Rattle.ipl.specs.Search.{Step, clause_of, known, first_unrealized, drop_from, State, Outcome, valid, refused, done, more, begin, step_at, resolve, look, go_on, turn_with, turn}
use Rattle.ipl.proofs.Lists.{tabulate_length, tabulate_same, any_left, tabulate_more}
use Rattle.ipl.proofs.Range.{ImplicationBelow, implication_below}
use Rattle.ipl.proofs.Steps.{known_snoc}
use Rattle.std.specs.Prelude as std
use Rattle.std.specs.Prelude.{Ok, Err}
use Rattle.refusal.specs.Numbers.{number_of, place_of}
use Rattle.refusal.specs.declared.Refusal.{Refusal}
use Rattle.sat.specs.Answer.{answer_of}
use Rattle.sat.specs.Table.{clause_at, clauses}
use Rattle.atoms.specs.declared.AtomSet.{AtomSet}
use Rattle.prover.specs.State.{byte_at, implication_row, step_row, implications_of, steps_of, worlds_of}
use Rattle.prover.specs.Working.{FirstAtoms, Usable, first_pair, realized_at, Passed, AllRealized, FoundPair, proves, learned_row, Follows}
use Rattle.prover.specs.Search.{flats_in, known_in, state_of, asked_more, Keeps, Working, AskedIn, Began, Grew, LearnFits, StepJoined, Learned, TurnRight}
use Rattle.prover.specs.declared.Implications.{Implications}
use Rattle.prover.specs.declared.realization.Pair.{Pair}
use Rattle.prover.specs.declared.Steps.{Steps}
use Rattle.prover.specs.declared.Worlds.{Worlds}
use Rattle.prover.specs.declared.working.Kept.{Kept}
use Rattle.prover.specs.declared.question.Search.{Search}
use Rattle.prover.specs.declared.question.End.{End}
use Rattle.prover.specs.declared.question.End.TheVariants as end
use Rattle.prover.proofs.Rows.{byte_other, byte_same}
use Rattle.prover.proofs.Dropping.{ask_min}
use Rattle.prover.proofs.Pairs.{passed_first, pair_found, pair_none}
use Rattle.prover.proofs.Known.{learned_row_lem}
use Rattle.sat.proofs.Table.{clauses_more}

-- Clauses whose rows stayed.
clauses_same : (left right left2 right2 : List ℕ) (k : ℕ) → ((i : ℕ) → i < k → row_of left2 i ≡ row_of left i) → ((i : ℕ) → i < k → row_of right2 i ≡ row_of right i)
    → clauses left2 right2 k ≡ clauses left right k
unfolding clauses
clauses_same left right left2 right2 k hl hr =
    tabulate_same (clause_at left2 right2) (clause_at left right) k (λ i h. ap₂ (λ (x y : ℕ). record { left = x; right = y }) (hl i h) (hr i h))

pub first_atoms : {n : ℕ} {x : Implications} → Usable n x → FirstAtoms x
first_atoms {n} {x} u i h = omega (arith, (implication_below n (implication_row x i) (u.rows i h)).a, u.few)

module _ {n : ℕ} (g : ℕ) {x : Implications} (u : Usable n x) {s : Search} (w : Working x s) where
  -- The question over the clauses known, as the code puts it.
  asked : (A b : ℕ) → ask (min n limit) (known_in s) A b ≡ ask n (known (flats_in s) (implications_of x) (steps_of s.steps)) A b
  asked A b = ask_min n (known_in s) A b u.few ∙ ap (λ (R : List Flat). ask n R A b) w.known_rows

  -- ---- point 1
  module _ (z : s.worlds.count ≡ 0) where
    no_worlds : worlds_of s.worlds ≡ []
    unfolding tabulate
    no_worlds = ap (tabulate (row_of s.worlds.sets)) z

    at_begin : turn n (flats_in s) (implications_of x) g (state_of s) ≡ begin (state_of s) (ask n (known (flats_in s) (implications_of x) (steps_of s.steps)) 0 g)
    unfolding turn turn_with
    at_begin = ap (turn_with n (flats_in s) (implications_of x) g (state_of s)) no_worlds

    began_valid : none ≡ ask (min n limit) (known_in s) 0 g
        → turn n (flats_in s) (implications_of x) g (state_of s) ≡ done (valid (record { steps = steps_of s.steps; worlds = []; questions = suc s.questions }))
    unfolding begin
    began_valid e = at_begin ∙ ap (begin (state_of s)) (sym (e ∙ asked 0 g))

    began_more : (m : ℕ) → some m ≡ ask (min n limit) (known_in s) 0 g
        → turn n (flats_in s) (implications_of x) g (state_of s) ≡ more (record { steps = steps_of s.steps; worlds = m ∷ []; questions = suc s.questions })
    unfolding begin
    began_more m e = at_begin ∙ ap (begin (state_of s)) (sym (e ∙ asked 0 g))

    pub begin_right : (t : Search) (r : std.Option End) → Began n g s t r → TurnRight n g x s t (Ok r)
    begin_right t (std.Some end.Valid) h =
        subst (λ (t : Search). TurnRight n g x s t (Ok (std.Some end.Valid))) (sym h.1) (
          began_valid h.0 ∙ ap₂ (λ (W : List ℕ) (k : ℕ). done (valid (record { steps = steps_of s.steps; worlds = W; questions = k }))) (sym no_worlds) (sym (add-one s.questions)),
          omega arith,
        )
    begin_right t (std.Some end.Refuted) h = absurd h
    begin_right t std.None h = subst (λ (t : Search). TurnRight n g x s t (Ok std.None)) (sym h.3) (next, joined, refl, refl)
      where
        next : turn n (flats_in s) (implications_of x) g (state_of s)
            ≡ more (record { steps = steps_of s.steps; worlds = tabulate (row_of t.worlds.sets) 1; questions = s.questions + 1 })
        next = unfold tabulate in
            began_more h.0 h.1
            ∙ ap₂ (λ (m k : ℕ). more (record { steps = steps_of s.steps; worlds = m ∷ []; questions = k })) (sym (h.2.written (omega (arith, w.set_rows)))) (sym (add-one s.questions))

        joined : Working x (record (asked_more s t.kept) { worlds = record { count = 1; sets = t.worlds.sets }; pair = first_pair })
        joined = record {
          left_rows = w.left_rows;
          right_rows = w.right_rows;
          numbers_size = w.numbers_size;
          assumed_rows = w.assumed_rows;
          set_rows = same_rows t.worlds.sets s.worlds.sets h.2.size ∙ w.set_rows;
          few_flats = w.few_flats;
          few_steps = w.few_steps;
          few_worlds = omega arith;
          known_rows = w.known_rows;
          pair_number = zero-le;
          pair_world = zero-le;
          passed = passed_first (record { count = 1; sets = t.worlds.sets }) x;
          keeps = subst Keeps h.3 h.4;
        }

  -- ---- points 2 to 4
  look_with : (W : List ℕ) → 0 < length W → turn_with n (flats_in s) (implications_of x) g (state_of s) W
      ≡ look n (known (flats_in s) (implications_of x) (steps_of s.steps)) (state_of s) (first_unrealized W (implications_of x) W)
  unfolding turn_with
  look_with [] h = absurd (not-suc-le-zero h)
  look_with (v ∷ W) h = refl

  module _ (some_world : s.worlds.count ≡ 0 → ⊥) where
    at_look : turn n (flats_in s) (implications_of x) g (state_of s)
        ≡ look n (known (flats_in s) (implications_of x) (steps_of s.steps)) (state_of s) (first_unrealized (worlds_of s.worlds) (implications_of x) (worlds_of s.worlds))
    unfolding turn
    at_look = look_with (worlds_of s.worlds) (elim (dec_lt 0 (length (worlds_of s.worlds))) [
      | yes h ↦ h
      | no h ↦ absurd (some_world (omega (arith, tabulate_length (row_of s.worlds.sets) s.worlds.count)))
    ])

    pub refuted_right : (Passed s.worlds x s.pair → AllRealized s.worlds x) → TurnRight n g x s s (Ok (std.Some end.Refuted))
    unfolding look
    refuted_right h = (
      at_look ∙ ap (look n (known (flats_in s) (implications_of x) (steps_of s.steps)) (state_of s)) (pair_none s.worlds x (h w.passed)),
      omega arith,
    )

    module _ {q : Pair} (np : FoundPair s.worlds x s.pair q) where
      passed : Passed s.worlds x q
      passed = np.passed w.passed

      pair : S.Pair
      pair = record { world = row_of s.worlds.sets q.world; number = q.implication; implication = implication_row x q.implication }

      at_resolve : turn n (flats_in s) (implications_of x) g (state_of s)
          ≡ resolve n (known (flats_in s) (implications_of x) (steps_of s.steps)) (state_of s) pair
          (ask n (known (flats_in s) (implications_of x) (steps_of s.steps)) (insert (row_of s.worlds.sets q.world) (implication_row x q.implication).a) (implication_row x q.implication).b)
      unfolding look pair
      at_resolve =
          at_look ∙ ap (look n (known (flats_in s) (implications_of x) (steps_of s.steps)) (state_of s)) (pair_found s.worlds x q passed np.world np.number np.found)

      below : ImplicationBelow n (implication_row x q.implication)
      below = implication_below n (implication_row x q.implication) (u.rows q.implication np.number)

      -- The set that the code gives.
      pub given_is : {one given v : ℕ} → one ≡ single_or_empty (implication_row x q.implication).a
          → v ≡ row_of s.worlds.sets q.world → given ≡ union v one → given ≡ insert (row_of s.worlds.sets q.world) (implication_row x q.implication).a
      given_is eo ev eg =
          eg ∙ ap₂ union ev (eo ∙ single_bits (implication_row x q.implication).a (omega (arith, below.a, u.few)))

      module _ {given : ℕ} (eg : given ≡ insert (row_of s.worlds.sets q.world) (implication_row x q.implication).a) where
        answered : (o : Option ℕ) → o ≡ ask (min n limit) (known_in s) given (implication_row x q.implication).b
            → turn n (flats_in s) (implications_of x) g (state_of s) ≡ resolve n (known (flats_in s) (implications_of x) (steps_of s.steps)) (state_of s) pair o
        answered o e =
            at_resolve
            ∙ ap (resolve n (known (flats_in s) (implications_of x) (steps_of s.steps)) (state_of s) pair)
            (sym (e ∙ asked given (implication_row x q.implication).b ∙ ap (λ (A : ℕ). ask n (known (flats_in s) (implications_of x) (steps_of s.steps)) A (implication_row x q.implication).b) eg))

        -- ---- point 3
        module _ {m : ℕ} (e : some m ≡ ask (min n limit) (known_in s) given (implication_row x q.implication).b) where
          grown : turn n (flats_in s) (implications_of x) g (state_of s) ≡ more (record { steps = steps_of s.steps; worlds = worlds_of s.worlds ++ (m ∷ []); questions = suc s.questions })
          unfolding resolve
          grown = answered (some m) e

          grown_full : world_table ≤ s.worlds.count → (rest : State → Outcome) → go_on rest (turn n (flats_in s) (implications_of x) g (state_of s)) ≡ refused 11
          unfolding go_on
          grown_full h rest =
              ap (go_on rest) grown
              ∙ rw (lt-ltb world_table (length (worlds_of s.worlds ++ (m ∷ []))) (omega (arith, length-append (worlds_of s.worlds) (m ∷ []), tabulate_length (row_of s.worlds.sets) s.worlds.count)))

          module _ (kept : Kept) (f : Follows s.known (s.flats + s.steps.count) kept) (sets : List ℕ) (room : s.worlds.count < world_table) (r : RowSet s.worlds.sets s.worlds.count m sets) where
            abbrev worlds : Worlds
            worlds = record { count = s.worlds.count + 1; sets = sets }

            worlds_more : worlds_of worlds ≡ worlds_of s.worlds ++ (m ∷ [])
            worlds_more = tabulate_more (row_of s.worlds.sets) (row_of sets) m s.worlds.count (λ i h. r.others i (λ d. omega arith)) (r.written (omega (arith, w.set_rows)))

            -- What was realized stays so among more worlds.
            stays : (v i : ℕ) → v < s.worlds.count → T (realized_at s.worlds x v i) → T (realized_at worlds x v i)
            unfolding realizes
            stays v i h k =
                let M : ℕ = row_of s.worlds.sets v in
                let j : Implication = implication_row x i in
                let own = has M j.a || has M j.b || has M j.c in
                rw (r.others v (λ d. omega arith), worlds_more)
                (elim (T_or own (any (beyond j M) (worlds_of s.worlds)) k) [
                  | inl k ↦ T_inl own (any (beyond j M) (worlds_of s.worlds ++ (m ∷ []))) k
                  | inr k ↦ T_inr own (any (beyond j M) (worlds_of s.worlds ++ (m ∷ []))) (any_left (beyond j M) (worlds_of s.worlds) (m ∷ []) k)
                ])

            grown_working : Working x (record (asked_more s kept) { worlds = worlds; pair = q })
            grown_working = record {
              left_rows = w.left_rows;
              right_rows = w.right_rows;
              numbers_size = w.numbers_size;
              assumed_rows = w.assumed_rows;
              set_rows = same_rows sets s.worlds.sets r.size ∙ w.set_rows;
              few_flats = w.few_flats;
              few_steps = w.few_steps;
              few_worlds = omega arith;
              known_rows = w.known_rows;
              pair_number = omega (arith, np.number);
              pair_world = omega (arith, np.world);
              passed = record {
                worlds = λ v i a b. stays v i (omega (arith, np.world)) (passed.worlds v i a b);
                implications = λ i a. stays q.world i np.world (passed.implications i a);
              };
              keeps = f;
            }

          grow_more : (kept : Kept) → Follows s.known (s.flats + s.steps.count) kept → (t : Search) → Grew q m (asked_more s kept) t (Ok tt) → TurnRight n g x s t (Ok std.None)
          grow_more kept f t h = subst (λ (t : Search). TurnRight n g x s t (Ok std.None)) (sym h.2) (
            grown ∙ ap₂ (λ (W : List ℕ) (c : ℕ). more (record { steps = steps_of s.steps; worlds = W; questions = c })) (sym (worlds_more kept f t.worlds.sets h.0 h.1)) (sym (add-one s.questions)),
            grown_working kept f t.worlds.sets h.0 h.1,
            refl,
            refl,
          )

          grow_full : (kept : Kept) (t : Search) (e : Refusal) → Grew q m (asked_more s kept) t (Err e) → TurnRight n g x s t (Err e)
          grow_full kept t e h = (λ rest. grown_full h.1 rest ∙ ap (λ (e : Refusal). refused (number_of e)) (sym h.0), ap place_of h.0)

        -- ---- point 4
        module _ (e : none ≡ ask (min n limit) (known_in s) given (implication_row x q.implication).b) where
          step : Step
          step = step_at n (known (flats_in s) (implications_of x) (steps_of s.steps)) pair

          learnt : turn n (flats_in s) (implications_of x) g (state_of s) ≡ more (record { steps = steps_of s.steps ++ (step ∷ []); worlds = []; questions = suc s.questions })
          unfolding resolve step
          learnt = answered none e

          learnt_full : step_table ≤ s.steps.count → (rest : State → Outcome) → go_on rest (turn n (flats_in s) (implications_of x) g (state_of s)) ≡ refused 12
          unfolding go_on
          learnt_full h rest =
              ap (go_on rest) learnt
              ∙ rw (lt-ltb step_table (length (steps_of s.steps ++ (step ∷ []))) (omega (arith, length-append (steps_of s.steps) (step ∷ []), tabulate_length (step_row s.steps) s.steps.count)))

          module _ (kept : Kept) (t : Search) (j : StepJoined n x q.implication given (asked_more s kept) t) where
            step_is : ◌≡◌ {A = Step} (record { number = q.implication; assumed = j.A }) step
            unfolding step step_at pair
            step_is =
                ap (λ (A : ℕ). record { number = q.implication; assumed = A })
                (j.dropped
                ∙ ap₂ (λ (R : List Flat) (A : ℕ). drop_from (proves n R (implication_row x q.implication).b) n 0 A) w.known_rows eg)

            abbrev steps : Steps
            steps = record { count = s.steps.count + 1; numbers = t.steps.numbers; assumed = t.steps.assumed }

            steps_more : steps_of steps ≡ steps_of s.steps ++ (step ∷ [])
            steps_more =
                tabulate_more (step_row s.steps) (step_row steps) (record { number = q.implication; assumed = j.A }) s.steps.count
                (λ i h. ap₂ (λ (a b : ℕ). record { number = a; assumed = b })
                (ap (λ (l : List ℕ). byte_at l i) j.numbers ∙ byte_other s.steps.numbers s.steps.count q.implication i h) (j.assumed.others i (λ d. omega arith)))
                (ap₂ (λ (a b : ℕ). record { number = a; assumed = b })
                (ap (λ (l : List ℕ). byte_at l s.steps.count) j.numbers ∙ byte_same s.steps.numbers s.steps.count q.implication (omega (arith, w.numbers_size, j.room)))
                (j.assumed.written (omega (arith, w.assumed_rows, j.room))))
                ∙ ap (λ (e : Step). steps_of s.steps ++ (e ∷ [])) step_is

            flats_stay : clauses t.known.left t.known.right s.flats ≡ flats_in s
            flats_stay = clauses_same s.known.left s.known.right t.known.left t.known.right s.flats (λ i h. j.left.others i (λ d. omega arith)) (λ i h. j.right.others i (λ d. omega arith))

            rows_more : clauses t.known.left t.known.right (s.flats + s.steps.count + 1) ≡ known_in s ++ (learned_row x q.implication j.A ∷ [])
            rows_more =
                clauses_more s.known.left s.known.right t.known.left t.known.right (s.flats + s.steps.count) _ _ j.left j.right
                (omega (arith, w.left_rows, w.few_flats, j.room)) (omega (arith, w.right_rows, w.few_flats, j.room))

            known_more : clauses t.known.left t.known.right (s.flats + (s.steps.count + 1))
                ≡ known (clauses t.known.left t.known.right s.flats) (implications_of x) (steps_of steps)
            known_more =
                ap (clauses t.known.left t.known.right) (sym (add_assoc s.flats s.steps.count 1)) ∙ rows_more
                ∙ ap₂ (λ (R : List Flat) (f : Flat). R ++ (f ∷ [])) w.known_rows (learned_row_lem n x u q.implication j.A np.number ∙ ap (clause_of (implications_of x)) step_is)
                ∙ sym (known_snoc (flats_in s) (implications_of x) (steps_of s.steps) step)
                ∙ sym (ap₂ (λ (F : List Flat) (S : List Step). known F (implications_of x) S) flats_stay steps_more)

            -- The tables after it.
            abbrev after : Search
            after = record (asked_more s t.kept) { known = t.known; steps = steps; worlds = record { count = 0; sets = s.worlds.sets }; pair = first_pair }

            learnt_working : Working x after
            learnt_working = record {
              left_rows = same_rows t.known.left s.known.left j.left.size ∙ w.left_rows;
              right_rows = same_rows t.known.right s.known.right j.right.size ∙ w.right_rows;
              numbers_size = ap length j.numbers ∙ length-set s.steps.numbers s.steps.count q.implication ∙ w.numbers_size;
              assumed_rows = same_rows t.steps.assumed s.steps.assumed j.assumed.size ∙ w.assumed_rows;
              set_rows = w.set_rows;
              few_flats = w.few_flats;
              few_steps = omega (arith, j.room);
              few_worlds = omega arith;
              known_rows = known_more;
              pair_number = zero-le;
              pair_world = zero-le;
              passed = passed_first (record { count = 0; sets = s.worlds.sets }) x;
              keeps = subst Keeps j.same j.keeps;
            }

            learn_more : TurnRight n g x s t (Ok std.None)
            learn_more = subst (λ (t : Search). TurnRight n g x s t (Ok std.None)) (sym j.same) (
              unfold tabulate in learnt ∙ ap₂ (λ (S : List Step) (c : ℕ). more (record { steps = S; worlds = []; questions = c })) (sym steps_more) (sym (add-one s.questions)),
              learnt_working,
              flats_stay,
              refl,
            )

          learn_full : (kept : Kept) (t : Search) (e : Refusal) → Learned n x q.implication given (asked_more s kept) t (Err e) → TurnRight n g x s t (Err e)
          learn_full kept t e h = (λ rest. learnt_full h.1 rest ∙ ap (λ (e : Refusal). refused (number_of e)) (sym h.0), ap place_of h.0)

        -- ---- as the code asks and goes on
        module _ {s1 : Search} {a : std.Option AtomSet} (k : AskedIn n given (implication_row x q.implication).b s s1 a) where
          kept_follow : Follows s.known (s.flats + s.steps.count) s1.kept
          kept_follow = subst Keeps k.same k.keeps

          pub countered_more : (m : AtomSet) → a ≡ std.Some m → (t : Search) → Grew q (num m) s1 t (Ok tt) → TurnRight n g x s t (Ok std.None)
          countered_more m ea t h =
              grow_more (ap answer_of (sym ea) ∙ k.right) s1.kept kept_follow t (subst (λ (s : Search). Grew q (num m) s t (Ok tt)) k.same h)

          pub countered_full : (m : AtomSet) → a ≡ std.Some m → (t : Search) (r : Refusal) → Grew q (num m) s1 t (Err r) → TurnRight n g x s t (Err r)
          countered_full m ea t r h =
              grow_full (ap answer_of (sym ea) ∙ k.right) s1.kept t r (subst (λ (s : Search). Grew q (num m) s t (Err r)) k.same h)

          pub learn_fits : LearnFits n q.implication s1
          learn_fits = subst (LearnFits n q.implication) (sym k.same) (record {
            few = u.few;
            number = omega (arith, np.number, u.count);
            size = w.numbers_size;
            flats = w.few_flats;
            keeps = kept_follow;
          })

          pub proved_more : a ≡ std.None → (t : Search) → Learned n x q.implication given s1 t (Ok tt) → TurnRight n g x s t (Ok std.None)
          proved_more ea t h =
              learn_more (ap answer_of (sym ea) ∙ k.right) s1.kept t (subst (λ (s : Search). StepJoined n x q.implication given s t) k.same h)

          pub proved_full : a ≡ std.None → (t : Search) (r : Refusal) → Learned n x q.implication given s1 t (Err r) → TurnRight n g x s t (Err r)
          proved_full ea t r h =
              learn_full (ap answer_of (sym ea) ∙ k.right) s1.kept t r (subst (λ (s : Search). Learned n x q.implication given s t (Err r)) k.same h)
