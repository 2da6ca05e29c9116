-- One row is written.
use mathlib.Core.Path.{◌≡◌, sym, ap, ◌∙◌}
use Prim.Native.Nat.{ℕ}
use lib.ListN.{length, set}
use Rattle.ipl.specs.Authors.{author_table}
use Rattle.prover.specs.Work.{work_at, works_of, more_work}
use Rattle.prover.specs.declared.Work.{Work}
use Rattle.prover.proofs.MarkRows.{sized}
use Rattle.prover.proofs.Works.{row_written, row_at}
use borrow.Author.Rules.{rules}
use Rattle.prover.proofs.Authors.count_decided.Goals as goal

pub returns : goal.returns
returns c =
    let table = c.args.self.now in
    let author = c.args.author in
    let size : length table.rows ≡ author_table = search (rules, sized) in
    rw c.from-at.ensures
    (row_written table author _ size
    ∙ ap (set (works_of table) author)
    (c.and_goal.ensures ∙ ap (λ (i : ℕ). more_work (work_at table.rows i) c.args.questions) c.from-at.ensures
    ∙ ap (λ (w : Work). more_work w c.args.questions) (sym (row_at table author c.requires.0))))
