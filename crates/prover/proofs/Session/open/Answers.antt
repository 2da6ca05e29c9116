-- The empty session of n atoms, or of one.
use mathlib.Core.Path.{sym, ◌∙◌}
use Rattle.ipl.specs.Book.{opened, open_refusal}
use Rattle.prover.proofs.Session.open.Goals as goal

pub returns-then-not-count_in_range : goal.returns-then-not-count_in_range
unfolding opened open_refusal
returns-then-not-count_in_range c =
    let e = sym c.count_in_range.ensures ∙ c.if-not-count_in_range.true in
    record { refused = rw e; holds = rw e c.empty.ensures.0; nothing = c.empty.ensures.1 }

pub returns : goal.returns
unfolding opened open_refusal
returns c =
    let e = sym c.count_in_range.ensures ∙ c.if-not-count_in_range.false in
    record { refused = rw e; holds = rw e c.empty-2.ensures.0; nothing = c.empty-2.ensures.1 }
