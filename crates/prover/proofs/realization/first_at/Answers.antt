use mathlib.Core.Path.{sym, ◌∙◌}
use Rattle.prover.specs.Working.{realized_at}
use Rattle.prover.proofs.Pairs.{passed_more}
use native.Mathlib.Omega.{arith}
use Rattle.prover.proofs.realization.first_at.Goals as goal

pub realized-requires : goal.realized-requires
realized-requires c = c.requires.2 c.loop-i.i (omega arith)

pub returns-then-not-realized : goal.returns-then-not-realized
returns-then-not-realized c = record {
  after = omega arith;
  bounded = omega arith;
  passed = c.loop-i.invariant;
  found = rw (← c.row-m.ensures) (sym c.realized.ensures ∙ c.if-not-realized.true);
}

pub loop-i-preserved : goal.loop-i-preserved
loop-i-preserved c =
    passed_more (realized_at c.args.worlds.now c.args.x.now c.args.w) _ _ c.loop-i.invariant
    (rw (← c.row-m.ensures) (sym c.realized.ensures ∙ c.if-not-realized.false))

pub returns : goal.returns
returns c = λ i a b. c.loop-i.invariant i a (omega arith)
