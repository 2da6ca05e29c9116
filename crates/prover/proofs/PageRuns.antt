-- A page on a session whose book is reached: it follows the book, goal by goal.
use mathlib.Core.Bool.{Bool, true, cond}
use mathlib.Core.List.{List, [], ◌∷◌, ◌++◌}
use mathlib.Core.Option.{Option, none, some}
use mathlib.Core.Path.{◌≡◌, refl, sym, ap, ap₂, ◌∙◌, subst}
use Prim.Native.Nat.{ℕ, suc, ◌<◌}
use native.Mathlib.Decide.{dec_le}
use native.Mathlib.Omega.{arith}
use lib.Dec.{eqb}
use lib.ListN.{length, get_or}
use borrow.Author.Tests.{eq-eqb, ne_eqb}
use Rattle.atoms.specs.Words.{row_of}
use Rattle.atoms.proofs.Truth.{by_cond}
use Rattle.ipl.specs.Search.{Outcome, valid, refuted, refused, unfinished}
use Rattle.ipl.specs.Page.{Found, earliest, Entry, searched, refuted_by, found_as, found_by}
use Rattle.ipl.specs.Book as B
use Rattle.ipl.specs.Authors.{is_author}
use Rattle.ipl.specs.Book.{Book, answer, answer_to, page_refusal, refusal, number_of, steps_after, taken, after_answer, entry_by, after_entry, entries_from, entries, after_entries, next}
use Rattle.ipl.specs.Work.{Decided, decided_as, decided_for, decided_on}
use Rattle.ipl.proofs.Lists.{tabulate_length, tabulate_at}
use Rattle.ipl.proofs.Authors.{author_zero}
use Rattle.ipl.proofs.Search.{OutcomeRight}
use Rattle.ipl.proofs.Book.{Reached, next_reached, answer_right}
use Rattle.prover.specs.State.{worlds_of, book}
use Rattle.prover.specs.InRange.{in_range}
use Rattle.prover.specs.Work.{works_of, with_all}
use Rattle.prover.specs.Calls.{AskedAs}
use Rattle.prover.specs.Page.{goals_of, page_number, RecordAfter, found_in, Counted, GoalBy, GoalsDone, PageAnswered}
use Rattle.prover.specs.Demand.{PageReturned, RecordIs, RecordsAre, none as no_record, one_more, held_as, held_by, held_after, PageIs}
use Rattle.prover.specs.declared.Work.{Work}
use Rattle.prover.specs.declared.Held.{Held}
use Rattle.prover.specs.declared.GoalRecord.{GoalRecord}
use Rattle.prover.specs.declared.Session.{Session}
use Rattle.prover.specs.Told.{Told, Answered}
use Rattle.prover.proofs.Works.{with_append}
use Rattle.prover.proofs.Keeping.{Kept, verdict_in_range, answered_kept, asked_as}

-- ---- goals as questions

-- The goal g, put to s by author w, gets e and leaves u: a question, or nothing is put.
abbrev pub EntryRun : Session → ℕ → ℕ → Entry → Session → Type 0
EntryRun s w g (searched o) u = (a : Answered) × AskedAs s w g o a × (answer (book s) g ≡ o) × (u ≡ a.session)
EntryRun s w g (refuted_by j) u = Counted s w u

-- The goals, one after the other.
abbrev pub EntriesRun : Session → ℕ → List ℕ → List Entry → Session → Type 0
EntriesRun s w [] [] t = t ≡ s
EntriesRun s w [] (e ∷ es) t = ⊥
EntriesRun s w (g ∷ gs) [] t = ⊥
EntriesRun s w (g ∷ gs) (e ∷ es) t = (u : Session) × EntryRun s w g e u × EntriesRun u w gs es t

-- A question, refused or not, leaves the book of its answer.
question_book : (k : Book) (w g : ℕ) → next k (B.question w g) ≡ after_answer k (answer_to k w g)
unfolding next refusal taken number_of steps_after
question_book k w g = by_outcome (answer_to k w g)
  where
    by_outcome : (o : Outcome) → cond (eqb (number_of o) 0) (after_answer k o) k ≡ after_answer k o
    by_outcome (valid end) = refl
    by_outcome (refuted end) = refl
    by_outcome (refused number) = by_cond (λ (b : Book). b ≡ k) (eqb number 0) k k (λ _. refl) (λ _. refl)
    by_outcome unfinished = refl

-- What a session keeps.
pub record Stays (s : Session) : Type 0 where
  pub is_in_range : in_range s ≡ true
  pub reached : Reached (book s)

module _ (w : ℕ) (known : is_author w ≡ true) where
  module _ (s : Session) (h : Stays s) (g : ℕ) where
    -- A goal searched leaves what a question leaves.
    pub searched_kept : (o : Outcome) (a : Answered) → AskedAs s w g o a → answer (book s) g ≡ o → Kept s (B.question w g) a.session
    searched_kept o a asked is = answered_kept s h.is_in_range h.reached w g a known (subst (λ (o : Outcome). AskedAs s w g o a) (sym is) asked)

    pub entry_book : (e : Entry) (u : Session) → EntryRun s w g e u → book u ≡ after_entry (book s) e
    entry_book (searched o) u (a, asked, is, leaves) = ap book leaves ∙ (searched_kept o a asked is).0 ∙ question_book (book s) w g ∙ ap (after_answer (book s)) (rw known is)
    entry_book (refuted_by j) u counted = counted.0

    pub entry_stays : (e : Entry) (u : Session) → EntryRun s w g e u → Stays u
    entry_stays (searched o) u (a, asked, is, leaves) =
        let kept = searched_kept o a asked is in
        subst Stays (sym leaves) (record { is_in_range = kept.1; reached = subst Reached (sym kept.0) (next_reached (book s) (B.question w g) h.reached) })
    entry_stays (refuted_by j) u counted =
        let reached : Reached (book u) = subst Reached (sym counted.0) h.reached in
        record { is_in_range = verdict_in_range _ s u h.is_in_range (ap (λ (k : Book). k.n) counted.0) reached counted.1; reached = reached }

  pub entries_book : (gs : List ℕ) (es : List Entry) (s t : Session) → Stays s → EntriesRun s w gs es t → (book t ≡ after_entries (book s) es) × Stays t
  unfolding after_entries
  entries_book [] [] s t h run = (ap book run, subst Stays (sym run) h)
  entries_book [] (e ∷ es) s t h run = absurd run
  entries_book (g ∷ gs) [] s t h run = absurd run
  entries_book (g ∷ gs) (e ∷ es) s t h (u, first, rest) =
      let later = entries_book gs es u t (entry_stays s h g e u first) rest in
      (later.0 ∙ ap (λ (k : Book). after_entries k es) (entry_book s h g e u first), later.1)

-- ---- what is held and counted then

-- The session u after s holds this verdict, and its authors have decided these goals more.
pub record HeldThen (s : Session) (v : Held) (D : List Decided) (u : Session) : Type 0 where
  pub held : u.held ≡ v
  pub work : works_of u.authors ≡ with_all (works_of s.authors) D

nothing_then : (s u : Session) → u ≡ s → HeldThen s s.held [] u
unfolding with_all
nothing_then s u same = record { held = ap (λ (u : Session). u.held) same; work = ap (λ (u : Session). works_of u.authors) same }

pub asked_then : (s : Session) (w g : ℕ) (o : Outcome) (a : Answered) → AskedAs s w g o a → HeldThen s (held_as s.held g o) (decided_as w o) a.session
unfolding with_all
asked_then s w g (valid end) a asked = record { held = asked.0.kept; work = asked.1.work }
asked_then s w g (refuted end) a asked = record { held = asked.0.kept; work = asked.1.work }
asked_then s w g (refused number) a asked = nothing_then s a.session asked.1
asked_then s w g unfinished a asked = absurd asked.0

entry_then : (s : Session) (w g : ℕ) (e : Entry) (u : Session) → EntryRun s w g e u → HeldThen s (held_by s.held g e) (decided_for w e) u
unfolding with_all
entry_then s w g (searched o) u (a, asked, is, leaves) = subst (HeldThen s (held_as s.held g o) (decided_as w o)) (sym leaves) (asked_then s w g o a asked)
entry_then s w g (refuted_by j) u counted = record { held = counted.1.same_verdict; work = counted.1.work }

pub entries_then : (w : ℕ) (gs : List ℕ) (es : List Entry) (s t : Session) → EntriesRun s w gs es t → HeldThen s (held_after s.held gs es) (decided_on w es) t
unfolding decided_on
entries_then w [] [] s t run = nothing_then s t run
entries_then w [] (e ∷ es) s t run = absurd run
entries_then w (g ∷ gs) [] s t run = absurd run
entries_then w (g ∷ gs) (e ∷ es) s t (u, first, rest) =
    let here = entry_then s w g e u first in
    let later = entries_then w gs es u t rest in
    record {
      held = later.held ∙ ap (λ (h : Held). held_after h gs es) here.held;
      work = later.work ∙ ap (λ (W : List Work). with_all W (decided_on w es)) here.work ∙ sym (with_append (decided_for w e) (decided_on w es) (works_of s.authors));
    }

-- ---- from the contract to the book

-- The record of a goal searched, and the model in it.
module _ (w i : ℕ) (x y : GoalRecord) (s : Session) (a : Answered) (is : RecordAfter x a.verdict a.session.worlds y) where
  after : (v : Told) → a.verdict ≡ v → RecordAfter x v a.session.worlds y
  after v same = subst (λ (v : Told). RecordAfter x v a.session.worlds y) same is

  record_after : (o : Outcome) → AskedAs s w x.goal o a → RecordIs (searched o) x y
  record_after (valid end) asked = after _ asked.0.verdict
  record_after (refuted end) asked =
      let r = after _ asked.0.verdict in
      (ap (λ (y : GoalRecord). y.goal) r, ap (λ (y : GoalRecord). y.answer) r, ap (λ (y : GoalRecord). worlds_of y.worlds) r ∙ asked.0.shows)
  record_after (refused number) asked = after _ asked.0
  record_after unfinished asked = absurd asked.0

  model_after : (o : Outcome) → AskedAs s w x.goal o a → OutcomeRight s.n (book s).flats (book s).implications x.goal (book s).steps o → found_in i y ≡ found_as i o
  model_after (valid end) asked right = ap (found_in i) (after _ asked.0.verdict)
  model_after (refuted end) asked right =
      ap (found_in i) (after _ asked.0.verdict) ∙ ap (λ (root : ℕ). record { place = i; root = root } ∷ []) same_root
    where
      some_world : 0 < a.session.worlds.count
      some_world = omega (arith, right.right.refuting.some, ap length asked.0.shows, tabulate_length (row_of a.session.worlds.sets) a.session.worlds.count)

      same_root : row_of a.session.worlds.sets 0 ≡ get_or end.worlds 0 0
      same_root =
          sym (tabulate_at (row_of a.session.worlds.sets) 0 a.session.worlds.count 0 some_world)
          ∙ ap (λ (W : List ℕ). get_or W 0 0) asked.0.shows
  model_after (refused number) asked right = ap (found_in i) (after _ asked.0).2
  model_after unfinished asked right = absurd asked.0

-- One goal: the entry that the book has for it.
record GoalFollows (s : Session) (w i : ℕ) (x y : GoalRecord) (u : Session) (e : Entry) : Type 0 where
  runs : EntryRun s w x.goal e u
  record_is : RecordIs e x y
  same_model : found_in i y ≡ found_by i e

module _ (w : ℕ) (known : is_author w ≡ true) where
  goal_follows : (s : Session) → Stays s → (i : ℕ) (x y : GoalRecord) (u : Session) (o : Option ℕ) → GoalBy o s w x y u → GoalFollows s w i x y u (entry_by (book s) x.goal o)
  goal_follows s h i x y u (some j) (is, leaves) = record { runs = leaves; record_is = is; same_model = ap (found_in i) is }
  goal_follows s h i x y u none (a, asked, is, leaves) =
      let g = x.goal in
      let as-book : AskedAs s w g (answer (book s) g) a =
      subst (λ (b : Bool). AskedAs s w g (cond b (answer (book s) g) (refused 20)) a) known (asked_as s h.is_in_range h.reached w g a asked) in
      record {
        runs = (a, as-book, refl, leaves);
        record_is = record_after w i x y s a is (answer (book s) g) as-book;
        same_model = model_after w i x y s a is (answer (book s) g) as-book (answer_right (book s) g h.reached).0;
      }

  pub goals_follow : (xs ys : List GoalRecord) (s t : Session) (M : List Found) (i : ℕ) → Stays s → GoalsDone s w M i xs ys t
      → EntriesRun s w (goals_of xs) (entries_from (book s) M i (goals_of xs)) t × RecordsAre (entries_from (book s) M i (goals_of xs)) xs ys
  unfolding entries_from
  goals_follow [] [] s t M i h d = (d, no_record)
  goals_follow [] (y ∷ ys) s t M i h d = absurd d
  goals_follow (x ∷ xs) [] s t M i h d = absurd d
  goals_follow (x ∷ xs) (y ∷ ys) s t M i h (u, first, rest) =
      let e = entry_by (book s) x.goal (earliest x.goal M) in
      let follows : GoalFollows s w i x y u e = goal_follows s h i x y u (earliest x.goal M) first in
      let later = goals_follow xs ys u t (M ++ found_in i y) (suc i) (entry_stays w known s h x.goal e u follows.runs) rest in
      let same : entries_from (book u) (M ++ found_in i y) (suc i) (goals_of xs) ≡ entries_from (after_entry (book s) e) (M ++ found_by i e) (suc i) (goals_of xs) =
      ap₂ (λ (k : Book) (F : List Found). entries_from k (M ++ F) (suc i) (goals_of xs)) (entry_book w known s h x.goal e u follows.runs) follows.same_model in (
        (u, follows.runs, subst (λ (es : List Entry). EntriesRun u w (goals_of xs) es t) same later.0),
        one_more follows.record_is (subst (λ (es : List Entry). RecordsAre es xs ys) same later.1),
      )

-- ---- the call

module _ (s : Session) (is_in_range : in_range s ≡ true) (r : Reached (book s)) (w : ℕ) (xs : List GoalRecord) (x : PageReturned) (m : PageAnswered s w xs x.records x.changed) where
  abbrev number : ℕ
  number = refusal (book s) (B.page w (goals_of xs))

  met : page_number s w (goals_of xs) ≡ number
  unfolding refusal
  met = rw is_in_range

  stays : Stays s
  stays = record { is_in_range = is_in_range; reached = r }

  pub author_known : number ≡ 0 → is_author w ≡ true
  unfolding refusal page_refusal
  author_known e = (author_zero w _ e).0

  pub page_follows : number ≡ 0 → EntriesRun s w (goals_of xs) (entries (book s) (goals_of xs)) x.changed.session × RecordsAre (entries (book s) (goals_of xs)) xs x.records
  page_follows e = goals_follow w (author_known e) xs x.records s x.changed.session [] 0 stays (m.done (met ∙ e))

  pub page_unchanged : (number ≡ 0 → ⊥) → (x.changed.session ≡ s) × (x.records ≡ xs)
  page_unchanged d = m.unchanged (λ e. d (sym met ∙ e))

  pub page_answer : PageIs (book s) s w xs x
  page_answer = record {
    number = m.refused ∙ met;
    unchanged = λ d. (page_unchanged d).1;
    records = λ e. (page_follows e).1;
    held = λ e. (entries_then w (goals_of xs) (entries (book s) (goals_of xs)) s x.changed.session (page_follows e).0).held;
    work = λ e. (entries_then w (goals_of xs) (entries (book s) (goals_of xs)) s x.changed.session (page_follows e).0).work;
  }

  pub page_kept : Kept s (B.page w (goals_of xs)) x.changed.session
  unfolding next taken
  page_kept = elim (dec_le number 0) [
    | yes l ↦
        let e : number ≡ 0 = omega arith in
        let then = entries_book w (author_known e) (goals_of xs) (entries (book s) (goals_of xs)) s x.changed.session stays (page_follows e).0 in
        (then.0 ∙ rw (eq-eqb number 0 e), then.1.is_in_range)
    | no l ↦
        let d : number ≡ 0 → ⊥ = λ e. omega arith in
        let same = (page_unchanged d).0 in
        (ap book same ∙ rw (ne_eqb number 0 d), subst (λ (u : Session). in_range u ≡ true) (sym same) is_in_range)
  ]
