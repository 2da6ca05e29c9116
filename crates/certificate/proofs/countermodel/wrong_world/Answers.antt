-- The tables hold the flat clauses.
use native.Mathlib.Omega.{arith}
use mathlib.Core.Path.{refl}
use Rattle.ipl.specs.Range.{flat_table}
use Rattle.certificate.proofs.Judging.{flats_fit, worlds_ready}
use Rattle.certificate.proofs.countermodel.wrong_world.Goals as goal

pub load_flats-requires : goal.load_flats-requires
load_flats-requires c =
    let fits = flats_fit _ _ c.requires.0 _ flat_table refl (omega arith) in (fits, fits)

pub judge_worlds-requires : goal.judge_worlds-requires
judge_worlds-requires c = worlds_ready _ _ c.requires.0 _ _ _ _ c.load_flats.ensures c.requires.1
