-- The three tests are those of a model.
use Rattle.std.proofs.Common.{sym, ◌∙◌}
use borrow.Author.Tests.{not-true}
use mathlib.Core.Bool.{false≢true}
use Rattle.atoms.proofs.Truth.{true_T}
use Rattle.atoms.proofs.Members.{within_bits}
use Rattle.sat.proofs.Table.{apart_of, all_hold_iff}
use Rattle.sat.proofs.longer.is_model.Goals as goal
use Rattle.sat.proofs.longer.is_model.Goals.{then-within, else-within}

pub returns-then-not-meets : goal.returns-then-not-meets
returns-then-not-meets c e = elim c.if-within.branch [
  | then-within w ↦ record {
    below = c.bounded.ensures;
    extends = record {
      includes = within_bits _ _ (true_T (sym c.within.ensures ∙ w.if-within.true));
      avoids = apart_of _ _ (sym w.meets.ensures ∙ not-true w.meets.result (sym w.value-is ∙ c.if-not-meets.true));
    };
    holds = (all_hold_iff _ _ _ _).0 (true_T (sym c.each_holds.ensures ∙ e));
  }
  | else-within w ↦ absurd (false≢true (sym w.if-within.false ∙ sym w.value-is ∙ c.if-not-meets.true))
]
