-- Each way out cites a law of Descent, at what propagation leaves.
use Rattle.std.specs.Prelude.{Some}
use Rattle.std.proofs.Common.{◌≡◌, ℕ, sym, ◌∙◌, subst, eqb-true}
use Rattle.atoms.specs.Words.{num}
use Rattle.sat.specs.declared.known.Partial.{Partial}
use Rattle.sat.specs.declared.propagation.Reached.{Reached}
use Rattle.sat.specs.declared.propagation.Reached.TheVariants.{Model, Open}
use Rattle.sat.specs.Knowledge.{Learns, Propagates}
use Rattle.atoms.proofs.Truth.{true_T, false_T}
use Rattle.sat.proofs.Clause.{positive}
use Rattle.sat.proofs.Table.{all_hold_iff}
use Rattle.sat.proofs.Descent.{known_least, known_none, none_open, pick_highest}
use Rattle.sat.proofs.search.descend.Goals as goal

-- Where propagation ended.
open_after : {P : ℕ → Type 0} (p q : Partial) {e : Reached} → Propagates P p (Some e) → e ≡ Open q → Learns P p q
open_after {P} p q w i = subst (λ (e : Reached). Propagates P p (Some e)) i w

model_after : {P : ℕ → Type 0} (p q : Partial) {e : Reached} → Propagates P p (Some e) → e ≡ Model q → Learns P p q × P (num q.has)
model_after {P} p q w i = subst (λ (e : Reached). Propagates P p (Some e)) i w

pub returns-then-not-is_empty : goal.returns-then-not-is_empty
returns-then-not-is_empty c =
    record {
      grown = open_after c.args.known c.in-Open.q c.in_ok-q.ensures c.in-Open.is;
      pick = pick_highest _ _ _ _ c.atoms.ensures c.complement-open.ensures _
          (c.highest.ensures.highest (positive _ (sym c.is_empty.ensures ∙ c.if-not-is_empty.true)));
    }

pub returns-then-each_holds : goal.returns-then-each_holds
returns-then-each_holds c =
    known_least _ _ _ _ _ (open_after c.args.known c.in-Open.q c.in_ok-q.ensures c.in-Open.is) ((all_hold_iff _ _ _ _).0 (true_T (sym c.each_holds.ensures ∙ c.if-each_holds.true)))

pub returns-in-Model : goal.returns-in-Model
returns-in-Model c =
    let m = model_after c.args.known c.in-Model.q c.in_ok-q.ensures c.in-Model.is in
    known_least _ _ _ _ _ m.0 m.1

pub returns-else-each_holds : goal.returns-else-each_holds
returns-else-each_holds c =
    known_none _ c.args.known c.in-Open.q (open_after c.args.known c.in-Open.q c.in_ok-q.ensures c.in-Open.is)
    (none_open _ _ _ _ c.atoms.ensures c.complement-open.ensures (eqb-true _ _ (sym c.is_empty.ensures ∙ c.if-not-is_empty.false)))
    (λ h. false_T (sym c.each_holds.ensures ∙ c.if-each_holds.false) ((all_hold_iff _ _ _ _).1 h))
