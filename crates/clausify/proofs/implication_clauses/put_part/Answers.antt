-- A row more for an implication.
use mathlib.Core.Logic.{inl, inr}
use mathlib.Core.Path.{◌≡◌, refl}
use lib.ListN.{length}
use Rattle.ipl.specs.Range.{implication_table}
use Rattle.prover.proofs.MarkRows.{sized}
use Rattle.prover.proofs.Rows.{implications_more}
use Rattle.clausify.proofs.Written.{and_appended, or_appended, from_bot_appended, implies_appended}
use borrow.Author.Rules.{rules}
use native.Mathlib.Omega.{arith}
use Rattle.clausify.proofs.implication_clauses.put_part.Goals as goal

pub returns-in-And : goal.returns-in-And
returns-in-And c = elim c.in-And.is [ inl e ↦ and_appended _ _ _ _ _ e | inr e ↦ or_appended _ _ _ _ _ e ]

pub returns-then-y-ne-BOTTOM : goal.returns-then-y-ne-BOTTOM
returns-then-y-ne-BOTTOM c =
    let t = c.args.t.now in
    let l : length t.rows ≡ implication_table = search (rules, sized) in
    implies_appended _ _ _ _ _ _ c.in-Implies.is c.if-y-ne-BOTTOM.true refl (implications_more t _ (omega arith))

pub returns-else-y-ne-BOTTOM : goal.returns-else-y-ne-BOTTOM
returns-else-y-ne-BOTTOM c = from_bot_appended _ _ _ _ _ c.in-Implies.is c.if-y-ne-BOTTOM.false
