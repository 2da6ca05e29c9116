-- What is given is apart from what is lacked.
use Rattle.std.proofs.Common.{sym, ◌∙◌, ap, ap₂}
use Rattle.atoms.specs.Sets.{union, minus, meets}
use Rattle.atoms.specs.Words.{num, every_atom}
use Rattle.sat.proofs.Table.{apart_of}
use Rattle.sat.proofs.countering.Goals as goal

pub invariant_of-result : goal.invariant_of-result
invariant_of-result c = record {
  fair = record {
    apart = apart_of _ _ (sym c.meets.ensures ∙ c.if-meets.false);
    has_below = c.bounded.ensures;
    lacks_below = c.bounded-2.ensures;
  };
}

pub returns-then-meets : goal.returns-then-meets
returns-then-meets c =
    ap (meets (num c.args.given)) (sym (c.join-lacked.ensures ∙ ap₂ union (c.complement-past.ensures ∙ ap (minus every_atom) c.below.ensures) c.single.ensures))
    ∙ sym c.meets.ensures ∙ c.if-meets.true
