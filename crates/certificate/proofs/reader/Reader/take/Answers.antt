use native.Mathlib.Omega.{arith}
use mathlib.Core.Path.{refl, sym}
use Rattle.certificate.proofs.OneEntry.{told_of}
use Rattle.certificate.proofs.reader.Reader.take.Goals as goal

pub returns-in_err-entry : goal.returns-in_err-entry
returns-in_err-entry c =
    rw c.from_residual.ensures
    (record { is = c.in_err-entry.ensures; next_is = sym (told_of _ _ _ c.in_err-entry.ensures).next_is; same = refl })

pub overflow_add-self : goal.overflow_add-self
overflow_add-self c = record { fits = omega (arith, (told_of _ _ _ c.in_ok-entry.ensures).room) }

pub returns : goal.returns
returns c = record { is = c.in_ok-entry.ensures; next_is = sym (told_of _ _ _ c.in_ok-entry.ensures).next_is; same = refl }
