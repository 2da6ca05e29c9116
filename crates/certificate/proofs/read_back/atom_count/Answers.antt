-- The byte n, where the layout is kept.
use Rattle.certificate.proofs.RowsBack.{unlaid_atoms, laid_atoms}
use Rattle.certificate.proofs.read_back.atom_count.Goals as goal

pub returns-in-Some : goal.returns-in-Some
returns-in-Some c = laid_atoms _ _ c.in-Some.ensures _ c.atom_count.ensures

pub returns-in-None : goal.returns-in-None
returns-in-None c = unlaid_atoms _ c.in-None.ensures
