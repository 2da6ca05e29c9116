-- The flat clauses are copied, and the clauses of the steps follow.
use mathlib.Core.Path.{◌∙◌}
use Rattle.atoms.proofs.Machine.{row_count_words}
use Rattle.prover.proofs.Known.{steps_fit, known_written}
use borrow.Author.Rules.{rules}
use Rattle.prover.proofs.working.Known.of.Goals as goal

pub write_steps-requires : goal.write_steps-requires
write_steps-requires c = steps_fit _ _ _ _ _ (c.copy_rows.ensures.size ∙ search rules) (c.copy_rows-2.ensures.size ∙ search rules) c.requires

pub returns : goal.returns
returns c =
    known_written _ _ _ _ _ _ _ c.write_steps.new.self
    (steps_fit _ _ _ _ _ (c.copy_rows.ensures.size ∙ search rules) (c.copy_rows-2.ensures.size ∙ search rules) c.requires)
    (row_count_words _ _ (c.copy_rows.ensures.size ∙ search rules)) (row_count_words _ _ (c.copy_rows-2.ensures.size ∙ search rules))
    c.copy_rows.ensures c.copy_rows-2.ensures c.write_steps.ensures
