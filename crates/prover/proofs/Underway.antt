-- A page under way: its goals are judged, and then answered, one after the other.
use mathlib.Core.Bool.{Bool, true, false, cond}
use mathlib.Core.List.{List, [], ◌∷◌, ◌++◌, append-nil, append_assoc}
use mathlib.Core.Path.{◌≡◌, refl, sym, ap, ◌∙◌, subst}
use Prim.Native.Nat.{ℕ, suc, ◌+◌, ◌≤◌, ◌<◌}
use native.Mathlib.Omega.{arith}
use lib.Dec.{T, leb}
use lib.ListN.{length, get_or, set, take, drop, length-set, length-map, drop_of_length-le, get_or-map}
use lib.Seq.{take_all, take-suc, drop-cons, drop-set-lt, take-suc-set}
use borrow.Author.Tests.{le-leb, leb-true, ltb-true}
use Rattle.atoms.proofs.Truth.{true_T, false_T}
use Rattle.ipl.specs.Lists.{all, tabulate}
use Rattle.ipl.specs.Range.{atom_or_bot}
use Rattle.ipl.specs.Page.{goal_table, Found}
use Rattle.ipl.specs.Authors.{author_table, is_author}
use Rattle.ipl.specs.Book.{page_refusal}
use Rattle.ipl.proofs.Lists.{all_snoc, all_All, All_at}
use Rattle.ipl.proofs.Authors.{passes_test, author_zero}
use Rattle.prover.specs.State.{book}
use Rattle.prover.specs.InRange.{in_range}
use Rattle.prover.specs.Page.{goals_of, page_number, model_row, models_of, GoalsDone, PageAnswered}
use Rattle.prover.specs.Paging.{RecordAnswered}
use Rattle.prover.specs.declared.Session.{Session}
use Rattle.prover.specs.declared.GoalRecord.{GoalRecord}
use Rattle.prover.specs.declared.paging.Models.{Models}
use Rattle.prover.proofs.Refusals.{number_zero}

pub goal_count : (xs : List GoalRecord) → length (goals_of xs) ≡ length xs
goal_count xs = length-map xs (λ (x : GoalRecord). x.goal)

-- ---- the number of the refusal

module _ (s : Session) (w : ℕ) (xs : List GoalRecord) (is_in_range : in_range s ≡ true) where
  pub unknown_author : is_author w ≡ false → page_number s w (goals_of xs) ≡ 20
  unfolding page_refusal
  unknown_author unknown = rw (is_in_range, unknown)

  module _ (known : is_author w ≡ true) where
    pub too_many : leb (length xs) goal_table ≡ false → page_number s w (goals_of xs) ≡ 19
    unfolding page_refusal
    too_many many = rw (is_in_range, known, goal_count xs, many)

    pub goals_judged : length xs ≤ goal_table → (b : Bool) → all (atom_or_bot s.n) (goals_of xs) ≡ b → page_number s w (goals_of xs) ≡ cond b 0 6
    unfolding page_refusal
    goals_judged few b e = rw (is_in_range, known, goal_count xs, le-leb (length xs) goal_table few, e)

-- A page that is not refused is of an author, and of few enough goals.
pub page_zero : (s : Session) (w : ℕ) (xs : List GoalRecord) → page_number s w (goals_of xs) ≡ 0 → (w < author_table) × (length xs ≤ goal_table)
unfolding page_refusal
page_zero s w xs e =
    let z = author_zero w _ (number_zero s (page_refusal (book s) w (goals_of xs)) e).1 in
    (ltb-true w author_table z.0, omega (arith, goal_count xs, leb-true (length (goals_of xs)) goal_table (passes_test _ _ 18 z.1).0))

-- ---- goals are judged

module _ (n : ℕ) (xs : List GoalRecord) (i : ℕ) (d : GoalRecord) (l : i < length xs) where
  own_goal : get_or (goals_of xs) i d.goal ≡ (get_or xs i d).goal
  own_goal = get_or-map (λ (x : GoalRecord). x.goal) xs i d

  within : i < length (goals_of xs)
  within = omega (arith, l, goal_count xs)

  pub goal_out : atom_or_bot n (get_or xs i d).goal ≡ false → all (atom_or_bot n) (goals_of xs) ≡ false
  goal_out out = not_all (all (atom_or_bot n) (goals_of xs)) refl
    where
      not_all : (b : Bool) → all (atom_or_bot n) (goals_of xs) ≡ b → all (atom_or_bot n) (goals_of xs) ≡ false
      not_all false e = e
      not_all true e =
          absurd (false_T (ap (atom_or_bot n) own_goal ∙ out) (All_at (λ g. T (atom_or_bot n g)) (goals_of xs) d.goal (all_All (atom_or_bot n) (goals_of xs) (true_T e)) i within))

  -- The goals up to it are in range.
  pub up_to : all (atom_or_bot n) (take i (goals_of xs)) ≡ true → atom_or_bot n (get_or xs i d).goal ≡ true → all (atom_or_bot n) (take (i + 1) (goals_of xs)) ≡ true
  up_to before inside =
      let one_more : i + 1 ≡ suc i = omega arith in
      ap (λ (i : ℕ). all (atom_or_bot n) (take i (goals_of xs))) one_more
      ∙ ap (all (atom_or_bot n)) (take-suc (goals_of xs) i d.goal within)
      ∙ all_snoc (atom_or_bot n) (take i (goals_of xs)) (get_or (goals_of xs) i d.goal)
      ∙ rw (before, own_goal, inside)

pub all_judged : (n : ℕ) (xs : List GoalRecord) (i : ℕ) → length xs ≤ i → all (atom_or_bot n) (take i (goals_of xs)) ≡ true → all (atom_or_bot n) (goals_of xs) ≡ true
all_judged n xs i end h = ap (all (atom_or_bot n)) (sym (take_all i (goals_of xs) (omega (arith, goal_count xs, end)))) ∙ h

-- ---- goals are answered

-- The page was put to s by author w, with the records xs. Those before the place i are answered, which left the session u, the models M
-- and the records zs; what is done with the others completes the page.
pub record Answering (s : Session) (w : ℕ) (xs : List GoalRecord) (i : ℕ) (u : Session) (M : Models) (zs : List GoalRecord) : Type 0 where
  pub size : length zs ≡ length xs
  pub few_models : M.count ≤ i
  pub untaken : drop i zs ≡ drop i xs
  pub completes : (ys : List GoalRecord) (t : Session) → GoalsDone u w (models_of M) i (drop i xs) ys t → GoalsDone s w [] 0 xs (take i zs ++ ys) t

pub answering_none : (s : Session) (w : ℕ) (xs : List GoalRecord) (M : Models) → M.count ≡ 0 → Answering s w xs 0 s M xs
unfolding tabulate
answering_none s w xs M none = record {
  size = refl;
  few_models = omega (arith, none);
  untaken = refl;
  completes = λ ys t done. subst (λ (n : ℕ). GoalsDone s w (tabulate (model_row M) n) 0 xs ys t) none done;
}

-- The record at the place i is answered.
module _ (s : Session) (w : ℕ) (xs : List GoalRecord) (i : ℕ) (u : Session) (M : Models) (zs : List GoalRecord) (h : Answering s w xs i u M zs) (l : i < length zs)
    (d y : GoalRecord) (v : Session) (N : Models) (a : RecordAnswered u w i M (get_or zs i d) v N y) where
  inside_first : i < length xs
  inside_first = omega (arith, l, h.size)

  one_more : i + 1 ≡ suc i
  one_more = omega arith

  -- The record and those behind it are as they were.
  as_they_were : get_or zs i d ∷ drop (suc i) zs ≡ get_or xs i d ∷ drop (suc i) xs
  as_they_were = sym (drop-cons zs i d l) ∙ h.untaken ∙ drop-cons xs i d inside_first

  -- With what is done with the records behind it.
  from_here : (ys : List GoalRecord) (t : Session) → GoalsDone v w (models_of N) (suc i) (drop (suc i) xs) ys t → GoalsDone u w (models_of M) i (drop i xs) (y ∷ ys) t
  from_here ys t rest =
      subst (λ (xs : List GoalRecord). GoalsDone u w (models_of M) i xs (y ∷ ys) t) (as_they_were ∙ sym (drop-cons xs i d inside_first)) (
        v,
        a.done,
        subst (λ (N : List Found). GoalsDone v w N (suc i) (drop (suc i) zs) ys t) a.found
            (subst (λ (xs : List GoalRecord). GoalsDone v w (models_of N) (suc i) xs ys t) (sym (ap (drop 1) as_they_were)) rest),
      )

  pub answering_next : Answering s w xs (i + 1) v N (set zs i y)
  answering_next = record {
    size = length-set zs i y ∙ h.size;
    few_models = omega (arith, a.few, h.few_models);
    untaken = rw one_more (drop-set-lt (suc i) zs i y (omega arith) ∙ ap (drop 1) as_they_were);
    completes = λ ys t rest. rw (one_more, take-suc-set zs i y l, append_assoc (take i zs) (y ∷ []) ys) (h.completes (y ∷ ys) t (from_here ys t (rw one_more at rest)));
  }

pub answering_all : {s : Session} {w : ℕ} {xs zs : List GoalRecord} {i : ℕ} {u : Session} {M : Models} → page_number s w (goals_of xs) ≡ 0 → length xs ≤ i → Answering s w xs i u M zs
    → PageAnswered s w xs zs (record { refusal = 0; session = u })
answering_all {xs = xs} {zs} {i} {u} unrefused end h = record {
  refused = sym unrefused;
  unchanged = λ d. absurd (d unrefused);
  done = λ _. rw (← take_all i zs (omega (arith, end, h.size)), ← append-nil (take i zs)) (h.completes [] u (rw (drop_of_length-le xs end) refl));
}
