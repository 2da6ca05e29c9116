-- The step and its clause are written, and the rows kept follow from one clause more.
use mathlib.Core.Path.{refl}
use native.Mathlib.Omega.{arith}
use Rattle.sat.proofs.Rows.{kept_grown}
use Rattle.prover.proofs.question.Search.learn.Goals as goal

pub returns : goal.returns
returns c = record {
  room = omega (arith, c.if-at-ge-STEPS.false);
  A = _;
  dropped = c.drop_atoms-assumed.ensures.0;
  numbers = refl;
  assumed = c.set_row.ensures;
  left = c.write_learned.ensures.0;
  right = c.write_learned.ensures.1;
  same = refl;
  keeps = kept_grown _ _ _ _ _ _ _ _ _ _ c.write_learned.ensures.0 c.write_learned.ensures.1 (omega arith) c.drop_atoms-assumed.ensures.1;
}
