-- A row more at the end.
use mathlib.Core.Path.{◌≡◌}
use lib.ListN.{length}
use Rattle.ipl.specs.Range.{implication_table}
use Rattle.prover.proofs.MarkRows.{sized}
use Rattle.prover.proofs.Rows.{implications_more}
use borrow.Author.Rules.{rules}
use native.Mathlib.Omega.{arith}
use Rattle.prover.proofs.Implications.push.Goals as goal

pub returns : goal.returns
returns c =
    let t = c.args.self.now in
    let l : length t.rows ≡ implication_table = search (rules, sized) in
    implications_more t c.args.i (omega arith)
