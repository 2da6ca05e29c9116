-- All bytes, or their beginning.
use mathlib.Core.Path.{subst}
use Rattle.std.proofs.lemmas.Result.{err_from_is_err_and}
use Rattle.certificate.specs.Checked.{BeginningRead}
use Rattle.certificate.proofs.Judging.{fault_given}
use Rattle.certificate.proofs.Beginning.{beginning_whole, beginning_unlaid, beginning_long}
use Rattle.certificate.proofs.check_beginning.Goals as goal

pub returns-then-more-eq0 : goal.returns-then-more-eq0
returns-then-more-eq0 c = beginning_whole _ _ c.if-more-eq0.true c.check.result c.check.ensures

pub returns-in_err-ok_or : goal.returns-in_err-ok_or
returns-in_err-ok_or c =
    let p = err_from_is_err_and c.from_residual.result c.from_residual.ensures.1 in
    let none = c.in_err-ok_or.ensures.ok_part in
    rw (p.1, p.2, fault_given _ _ _ none c.in_err-ok_or.ensures.value)
    (beginning_unlaid _ _ c.if-more-eq0.false (subst (BeginningRead _ _) none c.read_beginning.ensures))

pub returns : goal.returns
returns c = beginning_long _ _ c.if-more-eq0.false _ (subst (BeginningRead _ _) c.in_ok-ok_or.ensures.ok_part c.read_beginning.ensures)
