-- Each end of the search is its answer.
use mathlib.Core.Path.{ap, subst}
use Rattle.std.specs.Prelude.{Ok}
use Rattle.prover.specs.Search.{Ended}
use Rattle.prover.specs.Settling.{whole}
use Rattle.prover.proofs.Answers.{valid_asked, refuted_asked}
use Rattle.prover.proofs.settling.conclude.Goals as goal

pub returns-in-Valid : goal.returns-in-Valid
returns-in-Valid c =
    let s = c.args in
    valid_asked s.s.now s.author s.goal _ s.search.now (subst (Ended (whole s.s.now s.goal) s.search.now) (ap Ok c.in-Valid.is) c.requires.1) _ (c.hold.ensures _)

pub returns-in-Refuted : goal.returns-in-Refuted
returns-in-Refuted c =
    let s = c.args in
    refuted_asked s.s.now s.author s.goal _ s.search.now (subst (Ended (whole s.s.now s.goal) s.search.now) (ap Ok c.in-Refuted.is) c.requires.1) _ (c.hold-in-Refuted.ensures _)
