-- What every call keeps: a reached book, and a session in range.
use mathlib.Core.Bool.{Bool, true, false, cond, ◌&&◌}
use mathlib.Core.List.{List, []}
use mathlib.Core.Path.{◌≡◌, refl, sym, ap, ◌∙◌, subst}
use Prim.Native.Nat.{ℕ, ◌^◌, ◌≤◌, ◌<◌}
use native.Mathlib.Decide.{dec_le}
use native.Mathlib.Omega.{arith}
use lib.Dec.{T, eqb, leb, ltb, le→leb, lt→ltb}
use lib.ListN.{length}
use borrow.Author.Tests.{eq-eqb, ne_eqb}
use Rattle.atoms.specs.Sets.{limit}
use Rattle.atoms.specs.Words.{row_of}
use Rattle.atoms.proofs.Truth.{T_and, by_cond}
use Rattle.ipl.specs.Lists.{all, All}
use Rattle.ipl.specs.Range.{flat_table, implication_table, step_table, world_table, atom_or_bot, set_in_range, flat_in_range, implication_in_range}
use Rattle.ipl.specs.Search.{State, Outcome, valid, refuted, refused, unfinished, step_in_range}
use Rattle.ipl.specs.Marks.{mark_table, Mark}
use Rattle.ipl.specs.Book as B
use Rattle.ipl.specs.Authors.{is_author}
use Rattle.ipl.specs.Book.{Book, Call, count_in_range, goal_refusal, answer, answer_to, refusal, number_of, steps_after, taken, next}
use Rattle.ipl.specs.Demand.{RowsWellFormed, Remembers}
use Rattle.ipl.proofs.Lists.{All_all, All_map, tabulate_length}
use Rattle.ipl.proofs.Steps.{right_steps_in_range}
use Rattle.ipl.proofs.Limits.{Fits}
use Rattle.ipl.proofs.Search.{OutcomeRight}
use Rattle.ipl.proofs.Marks.{few_marks}
use Rattle.ipl.proofs.Book.{RowsReached, Reached, next_reached, goal_unrefused, answer_right}
use Rattle.prover.specs.State.{implication_row, step_row, mark_row, flats_of, implications_of, steps_of, worlds_of, marks_of, book}
use Rattle.prover.specs.InRange.{flats_in_range, implications_in_range, steps_in_range, worlds_in_range, held_in_range, mark_in_range, marks_in_range, in_range}
use Rattle.prover.specs.Work.{works_of}
use Rattle.prover.specs.Calls.{number, NothingHeld, VerdictKept, Changes, Given, with_steps, Searched, AskedAs, Asked}
use Rattle.prover.specs.declared.Work.{Work}
use Rattle.prover.specs.declared.Session.{Session}
use Rattle.prover.specs.Told.{Told, Changed, Answered}
use Rattle.prover.specs.declared.Held.{Held}
use Rattle.prover.proofs.Sessions.{parts, of_parts}
use Rattle.prover.proofs.Refusals.{clauses_length}
use Rattle.prover.proofs.Answers.{answer_refused}

-- ---- a session whose book is reached is in range, with its worlds and its verdict
module _ (s : Session) (r : Reached (book s)) where
  abbrev h : RowsWellFormed s.n (flats_of s.flats) (implications_of s.implications) (steps_of s.steps)
  h = r.rows.well_formed

  count_in_range_lem : T (count_in_range s.n)
  unfolding count_in_range
  count_in_range_lem = T_and (leb 1 s.n) (leb s.n limit) (le→leb 1 s.n h.some) (le→leb s.n limit h.few)

  flats_in_range_lem : T (flats_in_range s.n s.flats)
  unfolding flats_in_range
  flats_in_range_lem =
      T_and (leb s.flats.count flat_table) (all (flat_in_range s.n) (flats_of s.flats))
      (le→leb s.flats.count flat_table (omega (arith, h.flat_count_small, clauses_length s.flats.left s.flats.right s.flats.count)))
      (All_all (flat_in_range s.n) (flats_of s.flats) h.flats)

  implications_in_range_lem : T (implications_in_range s.n s.implications)
  unfolding implications_in_range
  implications_in_range_lem =
      T_and (leb s.implications.count implication_table) (all (implication_in_range s.n) (implications_of s.implications))
      (le→leb s.implications.count implication_table (omega (arith, h.implication_count_small, tabulate_length (implication_row s.implications) s.implications.count)))
      (All_all (implication_in_range s.n) (implications_of s.implications) h.implications)

  steps_in_range_lem : T (steps_in_range s.n s.implications.count s.steps)
  unfolding steps_in_range
  steps_in_range_lem =
      T_and (leb s.steps.count step_table) (all (step_in_range s.n s.implications.count) (steps_of s.steps))
      (le→leb s.steps.count step_table (omega (arith, h.step_count, tabulate_length (step_row s.steps) s.steps.count)))
      (All_all (step_in_range s.n s.implications.count) (steps_of s.steps)
      (subst (λ (m : ℕ). All (λ t. T (step_in_range s.n m t)) (steps_of s.steps)) (tabulate_length (implication_row s.implications) s.implications.count)
      (right_steps_in_range s.n (flats_of s.flats) (implications_of s.implications) [] (steps_of s.steps) h.steps)))

  marks_in_range_lem : T (marks_in_range s.flats.count s.implications.count s.steps.count s.marks)
  unfolding marks_in_range mark_in_range
  marks_in_range_lem =
      T_and (leb s.marks.count mark_table) (all (mark_in_range s.flats.count s.implications.count s.steps.count) (marks_of s.marks))
      (le→leb s.marks.count mark_table (omega (arith, few_marks (book s) r, tabulate_length (mark_row s.marks) s.marks.count)))
      (All_all (mark_in_range s.flats.count s.implications.count s.steps.count) (marks_of s.marks) (All_map (marks_of s.marks) inside r.marks))
    where
      inside : (m : Mark) → Remembers RowsReached s.n (flats_of s.flats) (implications_of s.implications) (steps_of s.steps) m
          → T (ltb m.number mark_table && (leb m.flats s.flats.count && (leb m.implications s.implications.count && leb m.steps s.steps.count)))
      inside m b =
          T_and (ltb m.number mark_table) (leb m.flats s.flats.count && (leb m.implications s.implications.count && leb m.steps s.steps.count))
          (lt→ltb m.number mark_table b.number)
          (T_and (leb m.flats s.flats.count) (leb m.implications s.implications.count && leb m.steps s.steps.count)
          (le→leb m.flats s.flats.count (omega (arith, b.flats, clauses_length s.flats.left s.flats.right s.flats.count)))
          (T_and (leb m.implications s.implications.count) (leb m.steps s.steps.count)
          (le→leb m.implications s.implications.count (omega (arith, b.implications, tabulate_length (implication_row s.implications) s.implications.count)))
          (le→leb m.steps s.steps.count (omega (arith, b.steps, tabulate_length (step_row s.steps) s.steps.count)))))

  reached_in_range : T (worlds_in_range s.n s.worlds) → T (held_in_range s.n s.held) → in_range s ≡ true
  reached_in_range w v = of_parts s (record {
    count = count_in_range_lem;
    flats = flats_in_range_lem;
    implications = implications_in_range_lem;
    steps = steps_in_range_lem;
    worlds = w;
    held = v;
    marks = marks_in_range_lem;
  })

  worlds_in_range_lem : (W : List ℕ) → worlds_of s.worlds ≡ W → length W ≤ world_table → All (λ M. M < 2 ^ s.n) W → T (worlds_in_range s.n s.worlds)
  unfolding worlds_in_range set_in_range
  worlds_in_range_lem W shows few below =
      T_and (leb s.worlds.count world_table) (all (set_in_range s.n) (worlds_of s.worlds))
      (le→leb s.worlds.count world_table (omega (arith, few, ap length shows, tabulate_length (row_of s.worlds.sets) s.worlds.count)))
      (rw shows (All_all (set_in_range s.n) W (All_map W (λ M l. lt→ltb M (2 ^ s.n) l) below)))

pub nothing_in_range : (W : List Work) (s : Session) → Reached (book s) → NothingHeld W s → in_range s ≡ true
unfolding held_in_range
nothing_in_range W s r h =
    reached_in_range s r (worlds_in_range_lem s r [] h.no_worlds (omega arith) tt) (subst (λ (v : Held). T (held_in_range s.n v)) (sym h.no_verdict) tt)

-- As after another session in range, whose verdict it keeps.
pub verdict_in_range : (W : List Work) (s u : Session) → in_range s ≡ true → u.n ≡ s.n → Reached (book u) → VerdictKept W s u → in_range u ≡ true
verdict_in_range W s u i e r h =
    let p = parts s i in
    reached_in_range u r (rw (e, h.same_worlds) p.worlds) (rw (e, h.same_verdict) p.held)

-- The book judges the call and makes the next of it, and the rest of the session is left so.
abbrev pub ByBook : Session → Call → (Session → Type 0) → Changed → Type 0
ByBook s c Rest r = Changes s (number s (refusal (book s) c)) (taken (book s) c) Rest r

-- What a call leaves: the book that it makes of the session's, and a session in range.
abbrev pub Kept : Session → Call → Session → Type 0
Kept s c next-session = (book next-session ≡ next (book s) c) × (in_range next-session ≡ true)

module _ (s : Session) (is_in_range : in_range s ≡ true) (r : Reached (book s)) where
  -- ---- additions and marks
  module _ (c : Call) (Rest : Session → Type 0) (x : Changed) (a : ByBook s c Rest x) where
    met : number s (refusal (book s) c) ≡ refusal (book s) c
    met = rw is_in_range

    pub change_answer : x.refusal ≡ refusal (book s) c
    change_answer = a.refused ∙ met

    change_kept : (book x.session ≡ taken (book s) c → Reached (book x.session) → Rest x.session → in_range x.session ≡ true) → Kept s c x.session
    unfolding next
    change_kept rest-in-range = elim (dec_le (refusal (book s) c) 0) [
      | yes l ↦
          let e : refusal (book s) c ≡ 0 = omega arith in
          let b : book x.session ≡ next (book s) c = a.holds (met ∙ e) ∙ rw (eq-eqb (refusal (book s) c) 0 e) in
          (b, rest-in-range (a.holds (met ∙ e)) (subst Reached (sym b) (next_reached (book s) c r)) (a.rest (met ∙ e)))
      | no l ↦
          let d : refusal (book s) c ≡ 0 → ⊥ = λ e. omega arith in
          let same : x.session ≡ s = a.unchanged (λ e. d (sym met ∙ e)) in
          (ap book same ∙ rw (ne_eqb (refusal (book s) c) 0 d), subst (λ (u : Session). in_range u ≡ true) (sym same) is_in_range)
    ]

  pub dropped_kept : (c : Call) (x : Changed) → ByBook s c (NothingHeld (works_of s.authors)) x → Kept s c x.session
  dropped_kept c x a = change_kept c (NothingHeld (works_of s.authors)) x a (λ _. nothing_in_range (works_of s.authors) x.session)

  pub set_kept : (j : ℕ) (x : Changed) → ByBook s (B.set_mark j) (VerdictKept (works_of s.authors) s) x → Kept s (B.set_mark j) x.session
  unfolding taken
  set_kept j x a =
      change_kept (B.set_mark j) (VerdictKept (works_of s.authors) s) x a (λ b. verdict_in_range (works_of s.authors) s x.session is_in_range (ap (λ (k : Book). k.n) b))

  -- ---- questions
  module _ (w g : ℕ) (x : Answered) (known : is_author w ≡ true) where
    -- The book after an answer o to author w.
    next_is : (o : Outcome) → answer (book s) g ≡ o → next (book s) (B.question w g) ≡ cond (eqb (number_of o) 0) (with_steps s (steps_after (steps_of s.steps) o)) (book s)
    unfolding next taken refusal
    next_is o e = rw (known, e)

    -- A question that comes to a verdict, and what its answer says.
    module _ {o : Outcome} {end : State} {v : Told} {h : Held} (e : answer (book s) g ≡ o) (no_refusal : number_of o ≡ 0) (a : Given v h end x) (l : Searched s w end x.session) where
      same_book : steps_after (steps_of s.steps) o ≡ end.steps → book x.session ≡ next (book s) (B.question w g)
      same_book same = l.holds ∙ sym (next_is o e ∙ rw (eq-eqb (number_of o) 0 no_refusal, same))

      same_n : x.session.n ≡ s.n
      same_n = ap (λ (k : Book). k.n) l.holds

      answer_kept : steps_after (steps_of s.steps) o ≡ end.steps → length end.worlds ≤ world_table → All (λ M. M < 2 ^ s.n) end.worlds
          → T (held_in_range s.n h) → Kept s (B.question w g) x.session
      answer_kept same few below goal =
          let reached : Reached (book x.session) = subst Reached (sym (same_book same)) (next_reached (book s) (B.question w g) r) in (
            same_book same,
            reached_in_range x.session reached (worlds_in_range_lem x.session reached end.worlds a.shows few (subst (λ (n : ℕ). All (λ M. M < 2 ^ n) end.worlds) (sym same_n) below))
                (subst (λ (v : Held). T (held_in_range x.session.n v)) (sym a.kept) (subst (λ (n : ℕ). T (held_in_range n h)) (sym same_n) goal)),
          )

    -- A goal that gets a verdict is in range.
    verdict_goal : (o : Outcome) → answer (book s) g ≡ o → number_of o ≡ 0 → T (atom_or_bot s.n g)
    unfolding number_of
    verdict_goal o e z = goal_unrefused (book s) g (elim (dec_le (goal_refusal (book s) g) 0) [
      | yes l ↦ omega arith
      | no l ↦ omega (arith, ap number_of (sym e ∙ answer_refused (book s) g (λ z. omega arith)))
    ])

    kept : (o : Outcome) → answer (book s) g ≡ o
        → OutcomeRight s.n (flats_of s.flats) (implications_of s.implications) g (steps_of s.steps) o × Fits o → AskedAs s w g o x → Kept s (B.question w g) x.session
    unfolding number_of steps_after held_in_range
    kept (valid end) e h a =
        answer_kept e refl a.0 a.1 refl (rw h.1.1 (omega arith)) (rw h.1.1 tt) (verdict_goal (valid end) e refl)
    kept (refuted end) e h a =
        answer_kept e refl a.0 a.1 refl h.1.0 h.0.below (verdict_goal (refuted end) e refl)
    kept (refused number) e h a = (
      ap book a.1 ∙ sym (next_is (refused number) e ∙ by_cond (λ (k : Book). k ≡ book s) (eqb number 0) _ (book s) (λ _. refl) (λ _. refl)),
      subst (λ (u : Session). in_range u ≡ true) (sym a.1) is_in_range,
    )
    kept unfinished e h a = absurd a.0

    pub answered_kept : AskedAs s w g (answer (book s) g) x → Kept s (B.question w g) x.session
    answered_kept a = kept (answer (book s) g) refl (answer_right (book s) g r) a

  pub asked_as : (w g : ℕ) (x : Answered) → Asked s w g x → AskedAs s w g (answer_to (book s) w g) x
  asked_as w g x a = subst (λ (b : Bool). AskedAs s w g (cond b (answer_to (book s) w g) (refused 5)) x) is_in_range a

  pub asked_kept : (w g : ℕ) (x : Answered) → AskedAs s w g (answer_to (book s) w g) x → Kept s (B.question w g) x.session
  unfolding next refusal number_of
  asked_kept w g x a = by_author (is_author w) refl
    where
      by_author : (b : Bool) → is_author w ≡ b → Kept s (B.question w g) x.session
      by_author true known = answered_kept w g x known (rw known at a)
      by_author false unknown =
          let same : x.session ≡ s = (rw unknown at a).1 in
          (ap book same ∙ rw unknown, subst (λ (u : Session). in_range u ≡ true) (sym same) is_in_range)
