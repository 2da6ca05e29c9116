-- A row more at the end of both columns.
use mathlib.Core.Path.{◌≡◌, refl}
use lib.ListN.{length}
use Rattle.ipl.specs.Page.{goal_table}
use Rattle.atoms.proofs.Machine.{row_count_words}
use Rattle.prover.proofs.ModelRows.{models_more}
use borrow.Author.Rules.{rules}
use native.Mathlib.Omega.{arith}
use Rattle.prover.proofs.paging.Models.push.Goals as goal

pub returns : goal.returns
returns c =
    let t = c.args.self.now in
    let places : length t.places ≡ goal_table = search rules in
    let roots : length t.roots ≡ goal_table = search rules in
    (models_more t c.args.place _ _ (omega (arith, c.requires)) (omega (arith, c.requires, row_count_words t.roots goal_table roots)) c.set_row.ensures, refl)
