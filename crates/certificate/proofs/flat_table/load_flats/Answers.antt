use native.Mathlib.Omega.{arith}
use Rattle.certificate.specs.ReadBack.{flat_of}
use Rattle.certificate.proofs.Tables.{loaded_none, loaded_next}
use Rattle.certificate.proofs.flat_table.load_flats.Goals as goal

pub loop-i-init : goal.loop-i-init
loop-i-init c = loaded_none _ _ _

pub loop-i-preserved : goal.loop-i-preserved
loop-i-preserved c =
    loaded_next _ c.args.sheet.now.contents.flats c.loop-i.i _ _ _ _ c.loop-i.invariant (omega arith) c.requires.0 c.requires.1
    (flat_of c.flat-f.result) _ _ c.flat-f.ensures c.set_row.ensures c.set_row-in-loop-i.ensures
