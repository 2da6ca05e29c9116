-- The clauses passed are loaded.
use Rattle.certificate.specs.Checked.{FlatsLoaded}
use Rattle.certificate.proofs.flat_table.load_flats.Given as goal

abbrev pub invariant-loop-i : goal.invariant-loop-i
invariant-loop-i l = FlatsLoaded l.sheet.bytes.now l.i l.initial.left l.initial.right l.left l.right
