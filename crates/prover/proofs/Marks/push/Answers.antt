-- A row more at the end.
use mathlib.Core.Path.{◌≡◌, refl}
use Prim.Native.Nat.{◌+◌}
use lib.ListN.{length}
use Rattle.ipl.specs.Marks.{mark_table}
use Rattle.prover.proofs.MarkRows.{sized, marks_more}
use borrow.Author.Rules.{rules}
use native.Mathlib.Omega.{arith}
use Rattle.prover.proofs.Marks.push.Goals as goal

pub returns : goal.returns
returns c =
    let t = c.args.self.now in
    let l : length t.rows ≡ mark_table + 1 = search (rules, sized) in
    (marks_more t c.args.mark (omega arith), refl)
