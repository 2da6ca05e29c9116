-- By the kind of the part.
use Rattle.clausify.proofs.Passes.{passed_letter, passed_falsum, passed_compound}
use Rattle.clausify.proofs.naming.Next.pass.Goals as goal

pub returns-in-Letter : goal.returns-in-Letter
returns-in-Letter c = passed_letter _ _ _ c.in-Letter.is

pub returns-in-Falsum : goal.returns-in-Falsum
returns-in-Falsum c = passed_falsum _ _ c.in-Falsum.is

pub returns-in-Compound : goal.returns-in-Compound
returns-in-Compound c = passed_compound _ _ _ _ _ c.in-Compound.is
