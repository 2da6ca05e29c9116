-- Theorem 6: demand 3's whole claim about the book, for every n and every list of calls, refused calls included.
use mathlib.Core.Bool.{Bool, true, false, not, cond, ◌&&◌, ◌||◌, true≢false}
use mathlib.Core.List.{List, [], ◌∷◌, ◌++◌, append-nil}
use mathlib.Core.Logic.{◌⊎◌, ◌↔◌, inl, inr}
use mathlib.Core.Path.{◌≡◌, refl, sym, ◌∙◌, subst}
use Prim.Native.Nat.{ℕ, ◌≤◌, ◌<◌}
use native.Mathlib.Nat.{le_trans}
use native.Mathlib.Omega.{arith}
use lib.Dec.{T, eqb, leb, ltb, leb→le, eqb_refl}
use lib.ListN.{length, length-append}
use borrow.Author.Tests.{leb-false, ltb-true, eqb-true, eq-eqb, ne_eqb}
use Rattle.atoms.specs.Sets.{limit}
use Rattle.atoms.proofs.Machine.{limit_small, limit_least}
use Rattle.atoms.proofs.Truth.{T_left, T_right, T_and, T_or, T_inl, T_inr, T_true, true_T, by_cond}
use Rattle.ipl.specs.Lists.{any, All}
use Rattle.ipl.specs.Clause.{bot, one, Flat, Implication, closing, closings, same_flat, closed}
use Rattle.ipl.specs.Range.{flat_table, implication_table, step_table, atom_or_bot, set_in_range, flat_in_range, implication_in_range}
use Rattle.ipl.specs.Search.{Step, State, Outcome, valid, refuted, refused, unfinished, NeedsNoMore, start, search}
use Rattle.ipl.specs.Kripke.{Model, shown}
use Rattle.ipl.specs.Claim.{Countermodel, StepsRight}
use Rattle.ipl.specs.Marks.{mark_table, place_of, is_set}
use Rattle.ipl.specs.Authors.{is_author}
use Rattle.ipl.specs.Book.{Book, Addition, add_flat, add_implication, Call, add, question, set_mark, return_to, page, count_in_range, opened, flats_full}
use Rattle.ipl.specs.Book.{flat_refusal, implication_refusal, addition_refusal, goal_refusal, answer, question_refusal, answer_to, mark_refusal, return_refusal, refusal}
use Rattle.ipl.specs.Book.{added, steps_after, after_answer, taken, next, after}
use Rattle.ipl.specs.Demand.{is_valid, is_refuted, is_verdict, Settled, RowsWellFormed, Marked, WellFormed, Answered, Claims}
use Rattle.ipl.proofs.Lists.{All_map, All_append, any_left, any_last}
use Rattle.ipl.proofs.Range.{AtomOrBot, ImplicationBelow, atom_or_bot_lem, flat_below, implication_below, one_in_range}
use Rattle.ipl.proofs.PropositionTwo.{refuting_countermodel}
use Rattle.ipl.proofs.Steps.{steps_more, step_numbers, clauses_same, derivation_sound}
use Rattle.ipl.proofs.Witness.{Witnessed, witnessed_none, witnessed_same}
use Rattle.ipl.proofs.Search.{OutcomeRight, search_right}
use Rattle.ipl.proofs.Marks.{Longer, same, marked_map, longer_marked, set_marked, returned_marked}
use Rattle.ipl.proofs.Authors.{author_zero}
use Rattle.ipl.proofs.Page.{valid_right, refuted_right, no_verdict_right, entries_kept, page_settled}
use Rattle.ipl.proofs.Limits.{Fits, Ended, search_ends, search_fits, verdict_iff_needs_no_more, eight_atoms}

-- What rows reached by calls hold, and the witnesses of their steps.
pub record RowsReached (n : ℕ) (F : List Flat) (X : List Implication) (S : List Step) : Type 0 where
  pub well_formed : RowsWellFormed n F X S
  pub witnessed : Witnessed n X S

-- What every book reached holds: of its rows, and of those up to each mark.
abbrev pub Reached : Book → Type 0
Reached = Marked RowsReached

abbrev OwnRows : Book → Type 0
OwnRows k = RowsReached k.n k.flats k.implications k.steps

-- ---- an opening

pub opened_reached : (n : ℕ) → Reached (opened n)
unfolding opened
opened_reached n = record {
  rows = record { well_formed = fresh (cond (count_in_range n) n 1) (count (count_in_range n) refl); witnessed = witnessed_none _ [] };
  marks = tt;
  ordered = tt;
}
  where
    count : (b : Bool) → count_in_range n ≡ b → (1 ≤ cond b n 1) × (cond b n 1 ≤ limit)
    count true e = unfold count_in_range in (leb→le 1 n (T_left (leb 1 n) (leb n limit) (true_T e)), leb→le n limit (T_right (leb 1 n) (leb n limit) (true_T e)))
    count false e = (omega arith, omega (arith, limit_least))

    fresh : (n : ℕ) → (1 ≤ n) × (n ≤ limit) → RowsWellFormed n [] [] []
    fresh n h = record {
      some = h.0;
      few = h.1;
      flat_count_small = omega arith;
      implication_count_small = omega arith;
      step_count = omega arith;
      flats = tt;
      implications = tt;
      closings = tt;
      steps = tt;
    }

-- ---- a call that is not refused meets none of its refusals

pub flat_unrefused : (k : Book) (f : Flat) → flat_refusal k f ≡ 0 → T (flat_in_range k.n f) × (length k.flats < flat_table)
unfolding flat_refusal flats_full
flat_unrefused k f = go (flat_in_range k.n f) (leb flat_table (length k.flats)) refl
  where
    go : (a b : Bool) → leb flat_table (length k.flats) ≡ b → ◌≡◌ {A = ℕ} (cond (not a) 6 (cond b 7 0)) 0 → T a × (length k.flats < flat_table)
    go true true e r = absurd (omega arith)
    go true false e r = (tt, leb-false flat_table (length k.flats) e)
    go false b e r = absurd (omega arith)

pub record ImplicationUnrefused (k : Book) (i : Implication) : Type 0 where
  pub is_in_range : T (implication_in_range k.n i)
  pub row : (eqb i.b bot ≡ true) ⊎ (length k.flats < flat_table)
  pub room : length k.implications < implication_table

pub implication_unrefused : (k : Book) (i : Implication) → implication_refusal k i ≡ 0 → ImplicationUnrefused k i
unfolding implication_refusal flats_full
implication_unrefused k i =
    go (implication_in_range k.n i) refl (eqb i.b bot) refl (leb flat_table (length k.flats)) refl (leb implication_table (length k.implications)) refl
  where
    go : (a : Bool) → implication_in_range k.n i ≡ a → (b : Bool) → eqb i.b bot ≡ b → (c : Bool) → leb flat_table (length k.flats) ≡ c
        → (d : Bool) → leb implication_table (length k.implications) ≡ d
        → ◌≡◌ {A = ℕ} (cond (not a) 6 (cond (not b && c) 7 (cond d 8 0))) 0 → ImplicationUnrefused k i
    go true ea true eb c ec false ed r = record { is_in_range = true_T ea; row = inl eb; room = leb-false implication_table (length k.implications) ed }
    go true ea true eb c ec true ed r = absurd (omega arith)
    go true ea false eb false ec false ed r =
        record { is_in_range = true_T ea; row = inr (leb-false flat_table (length k.flats) ec); room = leb-false implication_table (length k.implications) ed }
    go true ea false eb false ec true ed r = absurd (omega arith)
    go true ea false eb true ec d ed r = absurd (omega arith)
    go false ea b eb c ec d ed r = absurd (omega arith)

pub goal_unrefused : (k : Book) (g : ℕ) → goal_refusal k g ≡ 0 → T (atom_or_bot k.n g)
unfolding goal_refusal
goal_unrefused k g = go (atom_or_bot k.n g)
  where
    go : (a : Bool) → ◌≡◌ {A = ℕ} (cond a 0 6) 0 → T a
    go true e = tt
    go false e = absurd (omega arith)

pub goal_taken : (k : Book) (g : ℕ) → T (atom_or_bot k.n g) → goal_refusal k g ≡ 0
unfolding goal_refusal
goal_taken k g t = rw (T_true (atom_or_bot k.n g) t)

pub mark_unrefused : (j : ℕ) → mark_refusal j ≡ 0 → j < mark_table
unfolding mark_refusal
mark_unrefused j = go (ltb j mark_table) refl
  where
    go : (b : Bool) → ltb j mark_table ≡ b → ◌≡◌ {A = ℕ} (cond b 0 17) 0 → j < mark_table
    go true e r = ltb-true j mark_table e
    go false e r = absurd (omega arith)

pub return_unrefused : (k : Book) (j : ℕ) → return_refusal k j ≡ 0 → place_of j k.marks < length k.marks
unfolding return_refusal is_set
return_unrefused k j = go (ltb j mark_table) (ltb (place_of j k.marks) (length k.marks)) refl
  where
    go : (a b : Bool) → ltb (place_of j k.marks) (length k.marks) ≡ b → ◌≡◌ {A = ℕ} (cond a (cond b 0 18) 17) 0 → place_of j k.marks < length k.marks
    go true true e r = ltb-true (place_of j k.marks) (length k.marks) e
    go true false e r = absurd (omega arith)
    go false b e r = absurd (omega arith)

-- The answer to such a goal is that of the search.
pub answer_searched : (k : Book) (g : ℕ) → goal_refusal k g ≡ 0 → answer k g ≡ search k.n k.flats k.implications g k.steps
unfolding answer
answer_searched k g e = rw (eq-eqb (goal_refusal k g) 0 e)

-- ---- closing clauses

closed_more : (F G : List Flat) (i : Implication) → T (closed F i) → T (closed (F ++ G) i)
unfolding closed
closed_more F G i t = elim (T_or (eqb i.b bot) (any (same_flat (closing i)) F) t) [
  | inl h ↦ T_inl (eqb i.b bot) (any (same_flat (closing i)) (F ++ G)) h
  | inr h ↦ T_inr (eqb i.b bot) (any (same_flat (closing i)) (F ++ G)) (any_left (same_flat (closing i)) F G h)
]

closed_new : (F : List Flat) (i : Implication) → T (closed (F ++ closings i) i)
unfolding closed closings same_flat
closed_new F i = go (eqb i.b bot)
  where
    go : (b : Bool) → T (b || any (same_flat (closing i)) (F ++ cond b [] (closing i ∷ [])))
    go true = tt
    go false =
        any_last (same_flat (closing i)) F (closing i)
        (T_and (eqb (closing i).left (closing i).left) (eqb (closing i).right (closing i).right) (eqb_refl (closing i).left) (eqb_refl (closing i).right))

closings_in_range : (n : ℕ) (i : Implication) → ImplicationBelow n i → All (λ f. T (flat_in_range n f)) (closings i)
unfolding closings closing flat_in_range
closings_in_range n i o =
    by_cond (All (λ f. T (flat_in_range n f))) (eqb i.b bot) [] (closing i ∷ []) (λ _. tt)
    (λ _. (T_and (set_in_range n (one i.b)) (set_in_range n (one i.c)) (one_in_range n i.b o.b) (one_in_range n i.c o.c), tt))

closings_count : (k : Book) (i : Implication) → RowsWellFormed k.n k.flats k.implications k.steps → ImplicationUnrefused k i → length (k.flats ++ closings i) ≤ flat_table
unfolding closings
closings_count k i h u = go (eqb i.b bot) refl u.row
  where
    go : (b : Bool) → eqb i.b bot ≡ b → (eqb i.b bot ≡ true) ⊎ (length k.flats < flat_table) → length (k.flats ++ cond b [] (closing i ∷ [])) ≤ flat_table
    go true e r = rw (append-nil k.flats) h.flat_count_small
    go false e (inl t) = absurd (true≢false (sym t ∙ e))
    go false e (inr l) = omega (arith, length-append k.flats (closing i ∷ []))

-- ---- each call that is taken keeps the rows of a reached book reached

flat_reached : (k : Book) (f : Flat) → OwnRows k → flat_refusal k f ≡ 0 → OwnRows (added k (add_flat f))
unfolding added
flat_reached k f r e =
    let h = r.well_formed in
    let u = flat_unrefused k f e in
    record {
      well_formed = record {
        some = h.some;
        few = h.few;
        flat_count_small = omega (arith, u.1, length-append k.flats (f ∷ []));
        implication_count_small = h.implication_count_small;
        step_count = h.step_count;
        flats = All_append (λ f. T (flat_in_range k.n f)) k.flats (f ∷ []) h.flats (u.0, tt);
        implications = h.implications;
        closings = All_map k.implications (λ i c. closed_more k.flats (f ∷ []) i c) h.closings;
        steps = subst (λ (X : List Implication). StepsRight k.n (k.flats ++ (f ∷ [])) X [] k.steps) (append-nil k.implications)
            (steps_more k.n k.flats k.implications (f ∷ []) [] [] k.steps tt h.steps);
      };
      witnessed = r.witnessed;
    }

implication_reached : (k : Book) (i : Implication) → OwnRows k → implication_refusal k i ≡ 0 → OwnRows (added k (add_implication i))
unfolding added
implication_reached k i r e =
    let h = r.well_formed in
    let u = implication_unrefused k i e in
    record {
      well_formed = record {
        some = h.some;
        few = h.few;
        flat_count_small = closings_count k i h u;
        implication_count_small = omega (arith, u.room, length-append k.implications (i ∷ []));
        step_count = h.step_count;
        flats = All_append (λ f. T (flat_in_range k.n f)) k.flats (closings i) h.flats (closings_in_range k.n i (implication_below k.n i u.is_in_range));
        implications = All_append (λ i. T (implication_in_range k.n i)) k.implications (i ∷ []) h.implications (u.is_in_range, tt);
        closings = All_append (λ j. T (closed (k.flats ++ closings i) j)) k.implications (i ∷ [])
            (All_map k.implications (λ j c. closed_more k.flats (closings i) j c) h.closings) (closed_new k.flats i, tt);
        steps = steps_more k.n k.flats k.implications (closings i) (i ∷ []) [] k.steps tt h.steps;
      };
      witnessed = witnessed_same k.n k.implications (k.implications ++ (i ∷ [])) k.steps
          (clauses_same k.n k.flats k.implications (closings i) (i ∷ []) k.steps (step_numbers k.n k.flats k.implications [] k.steps h.steps)) r.witnessed;
    }

module _ (k : Book) (g : ℕ) (r : Reached k) where
  implications_below : All (ImplicationBelow k.n) k.implications
  implications_below = All_map k.implications (implication_below k.n) r.rows.well_formed.implications

  abbrev outcome : Outcome
  outcome = search k.n k.flats k.implications g k.steps

  outcome_right : OutcomeRight k.n k.flats k.implications g k.steps outcome
  outcome_right = search_right k.n k.flats k.implications g k.steps implications_below r.rows.well_formed.steps r.rows.witnessed

  with_steps_lem : (S : List Step) → length S ≤ step_table → StepsRight k.n k.flats k.implications [] S → Witnessed k.n k.implications S
      → RowsReached k.n k.flats k.implications S
  with_steps_lem S f s v =
      let h = r.rows.well_formed in
      record {
        well_formed = record {
          some = h.some;
          few = h.few;
          flat_count_small = h.flat_count_small;
          implication_count_small = h.implication_count_small;
          step_count = f;
          flats = h.flats;
          implications = h.implications;
          closings = h.closings;
          steps = s;
        };
        witnessed = v;
      }

  steps_reached : (o : Outcome) → OutcomeRight k.n k.flats k.implications g k.steps o → Fits o
      → RowsReached k.n k.flats k.implications (steps_after k.steps o)
  unfolding steps_after
  steps_reached (valid s) h f = with_steps_lem s.steps f.0 h.grown.steps h.grown.witnessed
  steps_reached (refuted s) h f = with_steps_lem s.steps f.1 h.grown.steps h.grown.witnessed
  steps_reached (refused number) h f = r.rows
  steps_reached unfinished h f = r.rows

  pub steps_longer : (o : Outcome) → OutcomeRight k.n k.flats k.implications g k.steps o → Longer k.steps (steps_after k.steps o)
  unfolding steps_after
  steps_longer (valid s) h = (h.grown.new, h.grown.held_first)
  steps_longer (refuted s) h = (h.grown.new, h.grown.held_first)
  steps_longer (refused number) h = same k.steps
  steps_longer unfinished h = same k.steps

  -- ---- the answer to a question
  pub answer_right : OutcomeRight k.n k.flats k.implications g k.steps (answer k g) × Fits (answer k g)
  unfolding answer
  answer_right =
      by_cond (λ o. OutcomeRight k.n k.flats k.implications g k.steps o × Fits o)
      (eqb (goal_refusal k g) 0) outcome (refused (goal_refusal k g))
      (λ _. (outcome_right, search_fits k.n k.flats k.implications g k.steps r.rows.well_formed.step_count)) (λ _. (tt, tt))

  pub goal_reached : Reached (after_answer k (answer k g))
  goal_reached =
      longer_marked RowsReached k r (same k.flats) (same k.implications) (steps_longer (answer k g) answer_right.0)
      (steps_reached (answer k g) answer_right.0 answer_right.1)

  -- ---- and to one whose goal is in range
  module _ (is_in_range : AtomOrBot k.n g) where
    few : k.n ≤ bot
    few = le_trans r.rows.well_formed.few limit_small

    no_countermodel : (s : State) → OutcomeRight k.n k.flats k.implications g k.steps (valid s) → (m : Model) → Countermodel k.flats k.implications g m → ⊥
    no_countermodel s h =
        derivation_sound k.n k.flats k.implications (All_map k.flats (flat_below k.n) r.rows.well_formed.flats) implications_below few g is_in_range s.steps h.derivation

    worlds_countermodel : (s : State) → OutcomeRight k.n k.flats k.implications g k.steps (refuted s) → Countermodel k.flats k.implications g (shown s.worlds)
    worlds_countermodel s h =
        refuting_countermodel k.n few s.worlds h.below k.flats k.implications g h.right.refuting r.rows.well_formed.closings

    eight : k.n ≤ 8 → NeedsNoMore k.n k.flats k.implications g (start k.steps)
    eight l = eight_atoms k.n k.flats k.implications g implications_below l k.steps r.rows.well_formed.steps r.rows.witnessed

    -- Whichever way the search ends, given that it ends in a verdict exactly if it needs no more.
    settled : (o : Outcome) → OutcomeRight k.n k.flats k.implications g k.steps o
        → T (is_verdict o) ↔ NeedsNoMore k.n k.flats k.implications g (start k.steps) → Settled k g o
    unfolding is_valid is_refuted
    settled (valid s) h v = record { right = valid_right k g s (no_countermodel s h); verdict_iff = v; eight = eight }
    settled (refuted s) h v = record { right = refuted_right k g s (worlds_countermodel s h); verdict_iff = v; eight = eight }
    settled (refused number) h v = record { right = no_verdict_right k g (refused number) (λ t. t); verdict_iff = v; eight = eight }
    settled unfinished h v = record { right = no_verdict_right k g unfinished (λ t. t); verdict_iff = v; eight = eight }

  pub goal_settled : goal_refusal k g ≡ 0 → Settled k g (answer k g)
  goal_settled e =
      rw (answer_searched k g e)
      (settled (atom_or_bot_lem k.n g (goal_unrefused k g e)) outcome outcome_right (verdict_iff_needs_no_more k.n k.flats k.implications g k.steps r.rows.well_formed.step_count))

  pub goal_ended : goal_refusal k g ≡ 0 → Ended (answer k g)
  goal_ended e = rw (answer_searched k g e) (search_ends k.n k.flats k.implications g k.steps)

-- ---- a question, which names its author

pub question_reached : (k : Book) (a g : ℕ) → Reached k → Reached (after_answer k (answer_to k a g))
unfolding steps_after
question_reached k a g r = by_cond (λ o. Reached (after_answer k o)) (is_author a) (answer k g) (refused 20) (λ _. goal_reached k g r) (λ _. r)

question_settled : (k : Book) (a g : ℕ) → Reached k → question_refusal k a g ≡ 0 → Settled k g (answer_to k a g)
question_settled k a g r e = let z = author_zero a (goal_refusal k g) e in rw z.0 (goal_settled k g r z.1)

-- A verdict is one to an author, and on the goal.
pub verdict_from : (k : Book) (a g : ℕ) (o : Outcome) → answer_to k a g ≡ o → T (is_verdict o) → (is_author a ≡ true) × (answer k g ≡ o)
unfolding is_valid is_refuted
verdict_from k a g o e v = by_author (is_author a) refl e
  where
    by_author : (b : Bool) → is_author a ≡ b → cond b (answer k g) (refused 20) ≡ o → (is_author a ≡ true) × (answer k g ≡ o)
    by_author true known e = (known, e)
    by_author false unknown e = absurd (subst (λ (o : Outcome). T (is_verdict o)) (sym e) v)

-- ---- every call, and every list of calls

added_reached : (k : Book) (a : Addition) → Reached k → addition_refusal k a ≡ 0 → Reached (added k a)
unfolding addition_refusal added
added_reached k (add_flat f) r e = longer_marked RowsReached k r (f ∷ [], refl) (same k.implications) (same k.steps) (flat_reached k f r.rows e)
added_reached k (add_implication i) r e =
    longer_marked RowsReached k r (closings i, refl) (i ∷ [], refl) (same k.steps) (implication_reached k i r.rows e)

taken_reached : (k : Book) (c : Call) → Reached k → refusal k c ≡ 0 → Reached (taken k c)
unfolding refusal taken
taken_reached k (add a) r e = added_reached k a r e
taken_reached k (question a g) r e = question_reached k a g r
taken_reached k (set_mark j) r e = set_marked RowsReached k r j (mark_unrefused j e)
taken_reached k (return_to j) r e = returned_marked RowsReached k r (place_of j k.marks) (return_unrefused k j e)
taken_reached k (page a gs) r e = entries_kept Reached goal_reached gs k [] 0 r

pub next_reached : (k : Book) (c : Call) → Reached k → Reached (next k c)
unfolding next
next_reached k c r =
    by_cond Reached (eqb (refusal k c) 0) (taken k c) k (λ e. taken_reached k c r (eqb-true (refusal k c) 0 e)) (λ _. r)

pub after_reached : (cs : List Call) (k : Book) → Reached k → Reached (after k cs)
unfolding after
after_reached [] k r = r
after_reached (c ∷ cs) k r = after_reached cs _ (next_reached k c r)

-- A call that is not refused is taken; one that is changes nothing.
pub next_taken : (k : Book) (c : Call) → refusal k c ≡ 0 → next k c ≡ taken k c
unfolding next
next_taken k c e = rw (eq-eqb (refusal k c) 0 e)

refused_unchanged : (k : Book) (c : Call) → (refusal k c ≡ 0 → ⊥) → next k c ≡ k
unfolding next
refused_unchanged k c h = rw (ne_eqb (refusal k c) 0 h)

answered : (k : Book) (c : Call) → Reached k → Answered k c
answered k (add a) r = tt
answered k (question a g) r = question_settled k a g r
answered k (set_mark j) r = tt
answered k (return_to j) r = tt
answered k (page a gs) r = page_settled Reached goal_reached (λ k g r t. goal_settled k g r (goal_taken k g t)) k a gs r

well_formed : (k : Book) → Reached k → WellFormed k
well_formed = marked_map (λ n F X S r. r.well_formed)

pub claims : (cs : List Call) (k : Book) → Reached k → Claims k cs
claims [] k r = well_formed k r
claims (c ∷ cs) k r = (
  record { well_formed = well_formed k r; refused_unchanged = refused_unchanged k c; answered = answered k c r },
  claims cs (next k c) (next_reached k c r),
)

pub book_claims : (n : ℕ) (cs : List Call) → Claims (opened n) cs
book_claims n cs = claims cs (opened n) (opened_reached n)
