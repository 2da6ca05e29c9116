-- A page of goals: what every question keeps a page keeps, and every verdict of a page is right, where that of every question is.
use mathlib.Core.Bool.{Bool, true, false, not, cond}
use mathlib.Core.List.{List, [], ◌∷◌, ◌++◌, append_assoc}
use mathlib.Core.Option.{Option, none, some, some-injective, none-ne-some}
use mathlib.Core.Path.{◌≡◌, refl, sym, ap, ◌∙◌, subst}
use Prim.Native.Nat.{ℕ, suc, ◌≤◌}
use native.Mathlib.Omega.{arith}
use lib.Dec.{T, eqb, leb}
use lib.ListN.{length, get_or, length-append}
use lib.Seq.{get_or_at}
use borrow.Author.Tests.{leb-true}
use Rattle.atoms.specs.Sets.{has}
use Rattle.atoms.proofs.Truth.{T_right, T_inr}
use Rattle.ipl.specs.Lists.{all, All}
use Rattle.ipl.specs.Clause.{bot, Flat, Implication}
use Rattle.ipl.specs.Range.{atom_or_bot}
use Rattle.ipl.specs.Search.{State, Outcome, valid, refuted, refused, unfinished}
use Rattle.ipl.specs.Kripke.{Model, forces_atom, shown}
use Rattle.ipl.specs.Claim.{Countermodel}
use Rattle.ipl.specs.Page.{goal_table, Found, earliest, Entry, searched, refuted_by, found_as, found_by}
use Rattle.ipl.specs.Book.{Book, page_refusal, answer, after_answer, entry_by, after_entry, entries_from, entries, after_entries}
use Rattle.ipl.specs.Demand.{is_valid, is_refuted, is_verdict, worlds_of, VerdictRight, Settled, own_outcome, outcome_of, GoalSettled, GoalsSettled, PageSettled}
use Rattle.ipl.proofs.Lists.{all_All, All_append}
use Rattle.ipl.proofs.Authors.{author_zero}

-- ---- verdicts

-- There is no countermodel.
pub valid_right : (k : Book) (g : ℕ) (end : State) → ((m : Model) → Countermodel k.flats k.implications g m → ⊥) → VerdictRight k g (valid end)
unfolding is_valid is_refuted
valid_right k g end none-such = record {
  valid_iff = λ _. (λ _. none-such, λ _. tt);
  refuted_iff = λ _. (λ t. absurd t, λ c. none-such c.0 c.1);
  shown_one = λ t. absurd t;
}

-- The worlds are one.
pub refuted_right : (k : Book) (g : ℕ) (end : State) → Countermodel k.flats k.implications g (shown end.worlds) → VerdictRight k g (refuted end)
unfolding is_valid is_refuted worlds_of
refuted_right k g end c = record {
  valid_iff = λ _. (λ t. absurd t, λ f. f (shown end.worlds) c);
  refuted_iff = λ _. (λ _. (shown end.worlds, c), λ _. tt);
  shown_one = λ _. c;
}

-- Without a verdict nothing is said.
pub no_verdict_right : (k : Book) (g : ℕ) (o : Outcome) → (T (is_verdict o) → ⊥) → VerdictRight k g o
no_verdict_right k g o d = record {
  valid_iff = λ t. absurd (d t);
  refuted_iff = λ t. absurd (d t);
  shown_one = λ t. absurd (d (T_inr (is_valid o) (is_refuted o) t));
}

-- Books that hold the same clauses.
pub record SameClauses (k l : Book) : Type 0 where
  pub n : l.n ≡ k.n
  pub flats : l.flats ≡ k.flats
  pub implications : l.implications ≡ k.implications

module _ {k l : Book} (same : SameClauses k l) {g : ℕ} {m : Model} where
  to_first : Countermodel l.flats l.implications g m → Countermodel k.flats k.implications g m
  to_first c = subst (λ (F : List Flat). Countermodel F k.implications g m) same.flats (subst (λ (X : List Implication). Countermodel l.flats X g m) same.implications c)

  to_second : Countermodel k.flats k.implications g m → Countermodel l.flats l.implications g m
  to_second c = subst (λ (F : List Flat). Countermodel F l.implications g m) (sym same.flats) (subst (λ (X : List Implication). Countermodel k.flats X g m) (sym same.implications) c)

-- Right verdicts on one goal over the same clauses are the same.
same_verdict : {k l : Book} {g : ℕ} {o p : Outcome} → SameClauses k l → VerdictRight l g o → VerdictRight k g p → T (is_verdict o) → T (is_verdict p) → is_valid o ≡ is_valid p
same_verdict {o = o} {p} same a b v w =
    both (is_valid o) (is_valid p) (λ t. (b.valid_iff w).1 (λ m c. (a.valid_iff v).0 t m (to_second same c))) (λ t. (a.valid_iff v).1 (λ m c. (b.valid_iff w).0 t m (to_first same c)))
  where
    both : (x y : Bool) → (T x → T y) → (T y → T x) → x ≡ y
    both true true f g = refl
    both true false f g = absurd (f tt)
    both false true f g = absurd (g tt)
    both false false f g = refl

-- ---- a page that is not refused

pub page_few : (k : Book) (a : ℕ) (gs : List ℕ) → page_refusal k a gs ≡ 0 → length gs ≤ goal_table
unfolding page_refusal
page_few k a gs e = go (leb (length gs) goal_table) refl (author_zero a _ e).1
  where
    go : (a : Bool) → leb (length gs) goal_table ≡ a → ◌≡◌ {A = ℕ} (cond a (cond (all (atom_or_bot k.n) gs) 0 6) 19) 0 → length gs ≤ goal_table
    go true e r = leb-true (length gs) goal_table e
    go false e r = absurd (omega arith)

pub page_unrefused : (k : Book) (a : ℕ) (gs : List ℕ) → page_refusal k a gs ≡ 0 → All (λ g. T (atom_or_bot k.n g)) gs
unfolding page_refusal
page_unrefused k a gs e = go (leb (length gs) goal_table) (all (atom_or_bot k.n) gs) refl (author_zero a _ e).1
  where
    go : (a b : Bool) → all (atom_or_bot k.n) gs ≡ b → ◌≡◌ {A = ℕ} (cond a (cond b 0 6) 19) 0 → All (λ g. T (atom_or_bot k.n g)) gs
    go true true e r = all_All (atom_or_bot k.n) gs (subst T (sym e) tt)
    go true false e r = absurd (omega arith)
    go false b e r = absurd (omega arith)

-- ---- what a page keeps

module _ (P : Book → Type 0) (keeps : (k : Book) (g : ℕ) → P k → P (after_answer k (answer k g))) where
  pub entry_kept : (k : Book) (g : ℕ) (o : Option ℕ) → P k → P (after_entry k (entry_by k g o))
  entry_kept k g none p = keeps k g p
  entry_kept k g (some j) p = p

  pub entries_kept : (gs : List ℕ) (k : Book) (M : List Found) (i : ℕ) → P k → P (after_entries k (entries_from k M i gs))
  unfolding entries_from after_entries
  entries_kept [] k M i p = p
  entries_kept (g ∷ gs) k M i p = entries_kept gs _ _ (suc i) (entry_kept k g (earliest g M) p)

-- ---- every goal is settled

-- The earliest model that lacks the goal is one of them.
pub earliest_found : (P : Found → Type 0) (g j : ℕ) (M : List Found) → All P M → earliest g M ≡ some j → (m : Found) × P m × (m.place ≡ j) × (has m.root g ≡ false)
unfolding earliest
earliest_found P g j [] h e = absurd (none-ne-some j e)
earliest_found P g j (m ∷ M) h e = by_root (earliest_found P g j M h.1) (has m.root g) refl e
  where
    by_root : (earliest g M ≡ some j → (m : Found) × P m × (m.place ≡ j) × (has m.root g ≡ false))
        → (b : Bool) → has m.root g ≡ b → cond b (earliest g M) (some m.place) ≡ some j → (m : Found) × P m × (m.place ≡ j) × (has m.root g ≡ false)
    by_root later true r e = later e
    by_root later false r e = (m, h.0, some-injective m.place j e, r)

-- A countermodel of another goal is one of every goal that its root lacks.
lacks_too : {F : List Flat} {X : List Implication} {g : ℕ} (h : ℕ) (W : List ℕ) → Countermodel F X g (shown W) → has (get_or W 0 0) h ≡ false → Countermodel F X h (shown W)
unfolding forces_atom
lacks_too h W c r = record {
  model = c.model;
  flats = c.flats;
  implications = c.implications;
  lacks = λ t. subst T r (T_right (not (eqb h bot)) (has (get_or W 0 0) h) t);
}

-- Where a question that is not refused is settled, and what holds of k holds of every book that questions make of it.
module _ (P : Book → Type 0) (keeps : (k : Book) (g : ℕ) → P k → P (after_answer k (answer k g)))
    (settles : (k : Book) (g : ℕ) → P k → T (atom_or_bot k.n g) → Settled k g (answer k g)) (k : Book) (start : P k) (E : List Entry) where
  -- A model found: of the goal that it names, which was refuted.
  record Shows (m : Found) : Type 0 where
    end : State
    own : own_outcome (get_or E m.place (refuted_by m.place)) ≡ refuted end
    root : m.root ≡ get_or end.worlds 0 0
    goal : ℕ
    countermodel : Countermodel k.flats k.implications goal (shown end.worlds)

  -- Before a goal: the book that it is put to, and the models found.
  record Stage (l : Book) (M : List Found) : Type 0 where
    holds : P l
    same : SameClauses k l
    shows : All Shows M

  module _ (l : Book) (M : List Found) (stage : Stage l M) (g : ℕ) (is_in_range : T (atom_or_bot k.n g)) where
    settled_here : Settled l g (answer l g)
    settled_here = settles l g stage.holds (subst (λ (n : ℕ). T (atom_or_bot n g)) (sym stage.same.n) is_in_range)

    settled_alone : Settled k g (answer k g)
    settled_alone = settles k g start is_in_range

    by_search : GoalSettled k l E g (searched (answer l g))
    by_search = record { as_question = settled_here; right = settled_here.right; alone = same_verdict stage.same settled_here.right settled_alone.right }

    by_model : (j : ℕ) (m : Found) → Shows m → m.place ≡ j → has m.root g ≡ false → GoalSettled k l E g (refuted_by j)
    unfolding is_refuted
    by_model j m h place lacking =
        let is : outcome_of E (refuted_by j) ≡ refuted h.end = subst (λ (i : ℕ). own_outcome (get_or E i (refuted_by i)) ≡ refuted h.end) place h.own in
        let c : Countermodel k.flats k.implications g (shown h.end.worlds) = lacks_too g h.end.worlds h.countermodel (sym (ap (λ (M : ℕ). has M g) h.root) ∙ lacking) in
        let right : VerdictRight l g (outcome_of E (refuted_by j)) = subst (VerdictRight l g) (sym is) (refuted_right l g h.end (to_second stage.same c)) in
        record {
          as_question = subst (λ (o : Outcome). T (is_refuted o)) (sym is) tt;
          right = right;
          alone = same_verdict stage.same right settled_alone.right;
        }

    settled_by : (o : Option ℕ) → earliest g M ≡ o → GoalSettled k l E g (entry_by l g o)
    settled_by none e = by_search
    settled_by (some j) e = let f = earliest_found Shows g j M stage.shows e in by_model j f.0 f.1 f.2 f.3

    found_shows : (i : ℕ) (o : Outcome) → answer l g ≡ o → get_or E i (refuted_by i) ≡ searched o → All Shows (found_as i o)
    unfolding is_refuted worlds_of
    found_shows i (valid end) e at = tt
    found_shows i (refuted end) e at = (
      record {
        end = end;
        own = ap own_outcome at;
        root = refl;
        goal = g;
        countermodel = to_first stage.same ((subst (λ (o : Outcome). VerdictRight l g o) e settled_here.right).shown_one tt);
      },
      tt,
    )
    found_shows i (refused number) e at = tt
    found_shows i unfinished e at = tt

    entry_shows : (i : ℕ) (o : Option ℕ) → get_or E i (refuted_by i) ≡ entry_by l g o → All Shows (found_by i (entry_by l g o))
    entry_shows i none at = found_shows i (answer l g) refl at
    entry_shows i (some j) at = tt

    entry_same : (o : Option ℕ) → SameClauses k (after_entry l (entry_by l g o))
    entry_same none = record { n = stage.same.n; flats = stage.same.flats; implications = stage.same.implications }
    entry_same (some j) = stage.same

    next_stage : (i : ℕ) (o : Option ℕ) → get_or E i (refuted_by i) ≡ entry_by l g o → Stage (after_entry l (entry_by l g o)) (M ++ found_by i (entry_by l g o))
    next_stage i o at = record {
      holds = entry_kept P keeps l g o stage.holds;
      same = entry_same o;
      shows = All_append Shows M (found_by i (entry_by l g o)) stage.shows (entry_shows i o at);
    }

  goals_settled : (gs : List ℕ) → All (λ g. T (atom_or_bot k.n g)) gs → (l : Book) (M : List Found) → Stage l M → (i : ℕ) (before : List Entry) → length before ≡ i
      → E ≡ before ++ entries_from l M i gs → GoalsSettled k E l gs (entries_from l M i gs)
  unfolding entries_from
  goals_settled [] t l M stage i before size e = tt
  goals_settled (g ∷ gs) t l M stage i before size e =
      let o = earliest g M in
      let rest = entries_from (after_entry l (entry_by l g o)) (M ++ found_by i (entry_by l g o)) (suc i) gs in
      let at : get_or E i (refuted_by i) ≡ entry_by l g o = ap (λ (E : List Entry). get_or E i (refuted_by i)) e ∙ get_or_at before (entry_by l g o) rest (refuted_by i) i size in (
        settled_by l M stage g t.0 o refl,
        goals_settled gs t.1 (after_entry l (entry_by l g o)) (M ++ found_by i (entry_by l g o)) (next_stage l M stage g t.0 i o at) (suc i) (before ++ (entry_by l g o ∷ []))
            (omega (arith, size, length-append before (entry_by l g o ∷ []))) (e ∙ sym (append_assoc before (entry_by l g o ∷ []) rest)),
      )

-- A page that is not refused.
pub page_settled : (P : Book → Type 0) → ((k : Book) (g : ℕ) → P k → P (after_answer k (answer k g)))
    → ((k : Book) (g : ℕ) → P k → T (atom_or_bot k.n g) → Settled k g (answer k g)) → (k : Book) (a : ℕ) (gs : List ℕ) → P k → page_refusal k a gs ≡ 0 → PageSettled k gs
page_settled P keeps settles k a gs start e =
    goals_settled P keeps settles k start (entries k gs) gs (page_unrefused k a gs e) k []
    (record { holds = start; same = record { n = refl; flats = refl; implications = refl }; shows = tt }) 0 [] refl refl
