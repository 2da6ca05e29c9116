-- A row more at the end of both columns.
use mathlib.Core.Path.{◌≡◌}
use lib.ListN.{length}
use Rattle.ipl.specs.Range.{flat_table}
use Rattle.sat.proofs.Table.{clauses_more}
use Rattle.prover.proofs.Rows.{flat_room}
use borrow.Author.Rules.{rules}
use Rattle.prover.proofs.Flats.push.Goals as goal

pub returns : goal.returns
returns c =
    let t = c.args.self.now in
    let l : length t.left ≡ flat_table = search rules in
    let r : length t.right ≡ flat_table = search rules in
    clauses_more t.left t.right _ _ t.count _ _ c.set_row.ensures c.set_row-2.ensures
    (flat_room _ _ l c.requires) (flat_room _ _ r c.requires)
