-- The counts are the session's; the bodies one after the other.
use native.Mathlib.Omega.{arith}
use mathlib.Core.Path.{ap, ◌∙◌}
use Prim.Native.Nat.{ℕ}
use Rattle.atoms.specs.Bytes.{put_at}
use Rattle.sat.specs.Table.{clause_at, clauses}
use Rattle.prover.specs.State as state
use Rattle.prover.specs.declared.Session.{Session}
use Rattle.prover.proofs.Sessions.{usable}
use Rattle.certificate.specs.declared.Contents.{Contents}
use Rattle.certificate.specs.Format.{flat_row, implication_row}
use Rattle.certify.specs.Writing.{Fits}
use Rattle.certify.proofs.Bodies.{rows_each}
use Rattle.certify.proofs.Whole.{Counted, counted, bodies_put}
use Rattle.certify.proofs.sheet.put_bodies.Goals as goal

-- Counts as the room of the bodies wants them.
counts : {s : Session} {k : Contents} (bytes : ℕ) → Fits s k bytes → Counted s k
counts bytes fits = counted _ _ _ fits.counts_are

pub put_table-requires : goal.put_table-requires
put_table-requires c = (omega (arith, c.requires.room, (counts _ c.requires).flats_are), tt)

pub put_table-requires-2 : goal.put_table-requires-2
put_table-requires-2 c =
    (omega (arith, c.requires.room, (counts _ c.requires).flats_are, (counts _ c.requires).implications_are), (usable c.args.s.now c.requires.is_in_range).count)

pub put_claim-requires : goal.put_claim-requires
put_claim-requires c = (c.requires.is_in_range, omega (arith, c.requires.room, (counts _ c.requires).claim_is))

pub returns : goal.returns
unfolding clauses
returns c =
    let s = c.args.s.now in
    bodies_put s c.args.goal c.args.k.refuting c.args.k c.requires.counts_are _ _ _ _ _ _ _ _ _ c.requires.room
    c.implications_at.ensures c.goal_at.ensures c.claim_at.ensures
    c.put_byte.ensures
    (c.put_table.ensures ∙ ap (put_at _ _) (rows_each flat_row (clause_at s.flats.left s.flats.right) s.flats.count))
    (c.put_table-2.ensures ∙ ap (put_at _ _) (rows_each implication_row (state.implication_row s.implications) s.implications.count))
    c.put_byte-2.ensures c.put_claim.ensures
