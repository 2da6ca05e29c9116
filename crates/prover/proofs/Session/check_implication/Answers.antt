-- 6, 7, 8 in order, on a session in range.
use borrow.Author.Tests.{le-leb, lt-leb, ne_eqb}
use mathlib.Core.Logic.{inl, inr}
use mathlib.Core.Path.{sym, ◌∙◌}
use Rattle.ipl.specs.Book.{implication_refusal}
use Rattle.prover.proofs.Refusals.{flats_full_lem, implications_length, no_row_lacking}
use Rattle.prover.proofs.Session.check_implication.Goals as goal
use Rattle.prover.proofs.Session.check_implication.Goals.{else-i-ne-BOTTOM-via-then-i-ne-BOTTOM+else-self-ge-FLATS, else-i-ne-BOTTOM-via-else-i-ne-BOTTOM}

pub returns-then-not-implication_in_range : goal.returns-then-not-implication_in_range
unfolding implication_refusal
returns-then-not-implication_in_range c = rw (c.in_ok-check.ensures, sym c.implication_in_range.ensures ∙ c.if-not-implication_in_range.true)

pub returns-then-self-ge-FLATS : goal.returns-then-self-ge-FLATS
unfolding implication_refusal
returns-then-self-ge-FLATS c =
    rw (
      c.in_ok-check.ensures,
      sym c.implication_in_range.ensures ∙ c.if-not-implication_in_range.false,
      flats_full_lem,
      ne_eqb _ _ c.if-i-ne-BOTTOM.true,
      le-leb _ _ c.if-self-ge-FLATS.true,
    )

pub returns-then-self-ge-IMPLICATIONS : goal.returns-then-self-ge-IMPLICATIONS
unfolding implication_refusal
returns-then-self-ge-IMPLICATIONS c =
    let row = no_row_lacking c.args.i.b c.args.self.now.flats.count (elim c.else-i-ne-BOTTOM.branch [
      | else-i-ne-BOTTOM-via-then-i-ne-BOTTOM+else-self-ge-FLATS w ↦ inr w.if-self-ge-FLATS.false
      | else-i-ne-BOTTOM-via-else-i-ne-BOTTOM w ↦ inl w.if-i-ne-BOTTOM.false
    ]) in
    rw (c.in_ok-check.ensures, sym c.implication_in_range.ensures ∙ c.if-not-implication_in_range.false, flats_full_lem, row, implications_length, le-leb _ _ c.if-self-ge-IMPLICATIONS.true)

pub returns : goal.returns
unfolding implication_refusal
returns c =
    let row = no_row_lacking c.args.i.b c.args.self.now.flats.count (elim c.else-i-ne-BOTTOM.branch [
      | else-i-ne-BOTTOM-via-then-i-ne-BOTTOM+else-self-ge-FLATS w ↦ inr w.if-self-ge-FLATS.false
      | else-i-ne-BOTTOM-via-else-i-ne-BOTTOM w ↦ inl w.if-i-ne-BOTTOM.false
    ]) in
    rw (c.in_ok-check.ensures, sym c.implication_in_range.ensures ∙ c.if-not-implication_in_range.false, flats_full_lem, row, implications_length, lt-leb _ _ c.if-self-ge-IMPLICATIONS.false)
