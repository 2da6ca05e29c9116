-- Skipped, or a row more.
use mathlib.Core.Path.{sym, ◌∙◌}
use Rattle.clausify.proofs.Written.{any_listed, clause_skipped, clause_put}
use Rattle.clausify.proofs.flat_clauses.put.Goals as goal

pub returns-then-not-contains : goal.returns-then-not-contains
returns-then-not-contains c = clause_put _ _ c.args.left.now c.args.right.now _ (sym (any_listed _) ∙ sym c.contains.ensures.value ∙ c.if-not-contains.true)
    c.set_of.ensures c.set_of-then-not-contains.ensures c.push.ensures

pub returns-else-not-contains : goal.returns-else-not-contains
returns-else-not-contains c = clause_skipped _ c.args.left.now c.args.right.now (sym (any_listed _) ∙ sym c.contains.ensures.value ∙ c.if-not-contains.false)
