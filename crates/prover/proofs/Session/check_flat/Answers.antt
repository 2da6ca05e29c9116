-- 6, then 7, on a session in range.
use borrow.Author.Tests.{le-leb, lt-leb}
use mathlib.Core.Path.{sym, ◌∙◌}
use Rattle.ipl.specs.Book.{flat_refusal}
use Rattle.prover.proofs.Refusals.{flats_full_lem}
use Rattle.prover.proofs.Session.check_flat.Goals as goal

pub returns-then-not-flat_in_range : goal.returns-then-not-flat_in_range
unfolding flat_refusal
returns-then-not-flat_in_range c = rw (c.in_ok-check.ensures, sym c.flat_in_range.ensures ∙ c.if-not-flat_in_range.true)

pub returns-then-self-ge-FLATS : goal.returns-then-self-ge-FLATS
unfolding flat_refusal
returns-then-self-ge-FLATS c =
    rw (c.in_ok-check.ensures, sym c.flat_in_range.ensures ∙ c.if-not-flat_in_range.false, flats_full_lem, le-leb _ _ c.if-self-ge-FLATS.true)

pub returns : goal.returns
unfolding flat_refusal
returns c = rw (c.in_ok-check.ensures, sym c.flat_in_range.ensures ∙ c.if-not-flat_in_range.false, flats_full_lem, lt-leb _ _ c.if-self-ge-FLATS.false)
