use Prim.Native.Nat.{zero-le}
use Rattle.prover.proofs.Pairs.{passed_at, passed_world, passed_all}
use native.Mathlib.Omega.{arith}
use Rattle.prover.proofs.realization.next_pair.Goals as goal

pub returns-in-Some : goal.returns-in-Some
returns-in-Some c =
    let f = c.in-Some.ensures in
    record {
      passed = λ h. passed_at _ _ (record { world = c.loop-world.world; implication = c.loop-world.from }) _ f.passed (c.loop-world.invariant.1 h);
      world = omega arith;
      number = f.bounded;
      found = f.found;
    }

pub loop-world-preserved : goal.loop-world-preserved
loop-world-preserved c = (
  zero-le,
  λ h. passed_world _ _ (record { world = c.loop-world.world; implication = c.loop-world.from }) c.in_default.ensures (c.loop-world.invariant.1 h),
)

pub returns : goal.returns
returns c = λ h. passed_all _ _ (record { world = c.loop-world.world; implication = c.loop-world.from }) c.loop-world-test.false (c.loop-world.invariant.1 h)
