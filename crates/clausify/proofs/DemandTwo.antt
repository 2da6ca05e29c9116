-- Demand 2 for texts: the theorem.
use mathlib.Core.Bool.{true}
use mathlib.Core.List.{List}
use mathlib.Core.Logic.{inl, inr}
use mathlib.Core.Path.{◌≡◌, sym, ap, ◌∙◌, subst}
use Prim.Native.Nat.{ℕ, ◌≤◌}
use native.Mathlib.Omega.{arith}
use Rattle.ipl.specs.Kripke.{Model, IsModel, Forces, shown}
use Rattle.ipl.specs.Claim.{Countermodel}
use Rattle.ipl.specs.Search.{Outcome, valid, refuted, refused, unfinished}
use Rattle.ipl.specs.Authors.{program}
use Rattle.ipl.specs.Book.{Book, goal_refusal, answer}
use Rattle.ipl.specs.Demand as demand
use Rattle.ipl.specs.Demand.{is_valid, is_refuted}
use Rattle.ipl.proofs.Forcing.{forces_decidable}
use Rattle.ipl.proofs.Soundness.{atom_persists}
use Rattle.ipl.proofs.Limits.{Ended}
use Rattle.ipl.proofs.Book.{Reached, goal_taken, goal_settled, goal_ended}
use Rattle.prover.specs.State.{worlds_of, book}
use Rattle.prover.specs.Work.{none_done}
use Rattle.prover.specs.Calls.{Asked, AskedAs}
use Rattle.prover.specs.InRange.{in_range}
use Rattle.prover.specs.declared.Session.{Session}
use Rattle.prover.specs.Told.{Told, Answered, told}
use Rattle.prover.specs.Told as call
use Rattle.prover.proofs.Keeping.{nothing_in_range, asked_as}
use Rattle.ipl.specs.Formula.{Formula}
use Rattle.syntax.specs.Nodes.{letter, index_of, nodes, named}
use Rattle.syntax.specs.Refusal.{most_names, Accepted}
use Rattle.syntax.specs.Judge as judgement
use Rattle.syntax.specs.Judge.{Judgement, judge, Right}
use Rattle.syntax.proofs.Judge.{judge_right}
use Rattle.syntax.proofs.Stands.{table_stands, root_inside, table_ordered}
use Rattle.clausify.specs.Naming.{atom_at, calls, goal_of}
use Rattle.clausify.specs.Additions.{flats_by, implications_by}
use Rattle.clausify.specs.Calls.{Holds, SettledAs}
use Rattle.clausify.specs.Demand.{on_letters, Refutes, Says, DemandTwo}
use Rattle.clausify.specs.declared.Settled.{Settled}
use Rattle.clausify.proofs.TextBook.{text_book_is, goal_in_range, text_reached}
use Rattle.clausify.proofs.Names.{names_forced}
use Rattle.clausify.proofs.Extension.{extended, extended_model, extended_atoms, extended_clauses}

-- ---- the clauses of a text and its formula

module _ (t : Formula) where
  -- A countermodel of the clauses of t with its goal.
  abbrev Counters : Model → Type 0
  Counters m = Countermodel (flats_by (calls (nodes t).table)) (implications_by (calls (nodes t).table)) (goal_of t) m

  -- A formula that some model does not force at its root has a countermodel.
  pub no_countermodel : named (nodes t).table ≤ most_names → ((m : Model) → Counters m → ⊥) → (m : Model) → IsModel m → Forces m m.root t
  unfolding goal_of
  no_countermodel few none m ok = elim (forces_decidable m t m.root) [
    | yes h ↦ h
    | no n ↦
        let E = (nodes t).table in
        let clauses = extended_clauses E m ok (table_ordered t) few in
        absurd (none (extended E m) (record {
          model = extended_model E m ok;
          flats = clauses.0;
          implications = clauses.1;
          lacks = λ f. n (subst (Forces m m.root) (table_stands t) ((extended_atoms E m ok (table_ordered t) few (nodes t).root (root_inside t) m.root ok.root_world).0 f));
        }))
  ]

  letters_model : (m : Model) → IsModel m → IsModel (on_letters (nodes t).table m)
  letters_model m ok = record {
    root_world = ok.root_world;
    reflexive = ok.reflexive;
    transitive = ok.transitive;
    least = ok.least;
    persistent = λ u v l lu lv k f. atom_persists m ok u v (atom_at (nodes t).table (index_of (letter l) (nodes t).table)) lu lv k f;
  }

  -- Worlds that are a countermodel refute the formula.
  worlds_refute : (W : List ℕ) → Counters (shown W) → Refutes t W
  unfolding goal_of
  worlds_refute W c = record {
    model = letters_model (shown W) c.model;
    unforced = λ f. c.lacks
        ((names_forced t (shown W) c.model c.flats c.implications (nodes t).root (root_inside t) 0 c.model.root_world).1
        (subst (Forces (on_letters (nodes t).table (shown W)) 0) (sym (table_stands t)) f));
  }

-- ---- a text that is accepted, and its answer

module _ (s : List ℕ) (t : Formula) (accepted : Accepted s t) (r : Settled) (u : Session) (holds : Holds t u r.goal) where
  few : named (nodes t).table ≤ most_names
  few = omega (arith, accepted.size_right)

  abbrev answered : Answered
  answered = call.answered r.verdict r.session

  reached : Reached (book u)
  reached = subst Reached (sym holds.clauses) (text_reached t)

  is_in_range : in_range u ≡ true
  is_in_range = nothing_in_range none_done u reached holds.nothing

  goal_ok : goal_refusal (book u) r.goal ≡ 0
  goal_ok = goal_taken (book u) r.goal (rw (ap (λ (k : Book). k.n) (holds.clauses ∙ text_book_is t few), holds.goal) (goal_in_range t few))

  -- The clauses held are those of the text, and the goal is that of the text.
  of_text : (m : Model) → ◌≡◌ {A = Type 0} (Countermodel (book u).flats (book u).implications r.goal m) (Counters t m)
  of_text m =
      ap (λ (k : Book). Countermodel k.flats k.implications r.goal m) (holds.clauses ∙ text_book_is t few)
      ∙ ap (λ (g : ℕ). Countermodel (flats_by (calls (nodes t).table)) (implications_by (calls (nodes t).table)) g m) holds.goal

  says : (o : Outcome) → demand.Settled (book u) r.goal o → Ended o → AskedAs u program r.goal o answered → Says s (told r.verdict) (worlds_of r.session.worlds)
  unfolding is_valid is_refuted demand.worlds_of
  says (valid end) c e a =
      subst (λ (v : Told). Says s v (worlds_of r.session.worlds)) (sym a.0.verdict)
      (t, accepted.reads, no_countermodel t few (λ m k. (c.right.valid_iff tt).0 tt m (subst (λ (X : Type 0). X) (sym (of_text m)) k)))
  says (refuted end) c e a =
      subst (λ (v : Told). Says s v (worlds_of r.session.worlds)) (sym a.0.verdict)
      (t, accepted.reads, rw a.0.shows (worlds_refute t end.worlds (subst (λ (X : Type 0). X) (of_text (shown end.worlds)) (c.right.shown_one tt))))
  says (refused number) c e a = subst (λ (v : Told). Says s v (worlds_of r.session.worlds)) (sym a.0) (inr (t, accepted, e))
  says unfinished c e a = absurd a.0

  answer_says : Asked u program r.goal answered → Says s (told r.verdict) (worlds_of r.session.worlds)
  answer_says a =
      says (answer (book u) r.goal) (goal_settled (book u) r.goal reached goal_ok) (goal_ended (book u) r.goal reached goal_ok)
      (asked_as u is_in_range reached program r.goal answered a)

pub demand_two : DemandTwo
demand_two s r = by_judgement (judge s) (judge_right s)
  where
    by_judgement : (j : Judgement) → Right s j → SettledAs j r → Says s (told r.verdict) (worlds_of r.session.worlds)
    by_judgement (judgement.refused number place) x h = subst (λ (v : Told). Says s v (worlds_of r.session.worlds)) (sym h.0) (inl x)
    by_judgement (judgement.accepted t) x h = answer_says s t x r h.0 h.1 h.2
