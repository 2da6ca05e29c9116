-- A row more in both columns.
use mathlib.Core.Path.{refl}
use Rattle.atoms.proofs.Machine.{row_count_words}
use Rattle.ipl.specs.Range.{flat_table}
use Rattle.clausify.proofs.Written.{put_one}
use borrow.Author.Rules.{rules}
use native.Mathlib.Omega.{arith}
use Rattle.clausify.proofs.flat_clauses.push.Goals as goal

pub returns : goal.returns
returns c =
    let t = c.args.flats.now in
    put_one t _ _ (omega (arith, row_count_words t.left flat_table (search rules))) (omega (arith, row_count_words t.right flat_table (search rules)))
    c.set_row.ensures c.set_row-2.ensures refl
