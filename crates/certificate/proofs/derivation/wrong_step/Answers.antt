-- The tables hold the flat clauses.
use native.Mathlib.Omega.{arith}
use mathlib.Core.Path.{refl}
use Prim.Native.Nat.{◌+◌}
use Rattle.ipl.specs.Range.{flat_table, step_table}
use Rattle.certificate.proofs.Judging.{flats_fit, steps_ready}
use Rattle.certificate.proofs.derivation.wrong_step.Goals as goal

pub load_flats-requires : goal.load_flats-requires
load_flats-requires c =
    let fits = flats_fit _ _ c.requires.0 _ (flat_table + step_table) refl (omega arith) in (fits, fits)

pub judge_steps-requires : goal.judge_steps-requires
judge_steps-requires c = steps_ready _ _ c.requires.0 _ _ _ _ c.load_flats.ensures c.requires.1 refl refl
