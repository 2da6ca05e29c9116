-- 20, 19, then 6, on a session in range.
use Rattle.std.proofs.lemmas.Result.{err_from_is_err_and}
use borrow.Author.Tests.{lt-leb}
use mathlib.Core.Bool.{true, false}
use mathlib.Core.Path.{refl, sym, ◌∙◌}
use native.Mathlib.Omega.{arith}
use Rattle.ipl.specs.Lists.{all}
use Rattle.prover.proofs.Underway.{unknown_author, too_many, goals_judged, goal_out, up_to, all_judged}
use Rattle.prover.proofs.Session.check_page.Goals as goal

pub returns-in_err-check_author : goal.returns-in_err-check_author
returns-in_err-check_author c =
    let p = err_from_is_err_and c.from_residual-in_err-check_author.result c.from_residual-in_err-check_author.ensures.1 in
    let unknown = c.in_err-check_author.ensures in
    rw (p.1, p.2, unknown.1) (sym (unknown_author c.args.self.now c.args.author c.args.records.now c.in_ok-check.ensures unknown.0))

pub returns-then-records-gt-GOALS : goal.returns-then-records-gt-GOALS
returns-then-records-gt-GOALS c =
    sym (too_many c.args.self.now c.args.author c.args.records.now c.in_ok-check.ensures c.in_ok-check_author.ensures (lt-leb _ _ c.if-records-gt-GOALS.true))

pub loop-rec-init : goal.loop-rec-init
unfolding all
loop-rec-init c = refl

pub returns-then-not-atom_or_bottom : goal.returns-then-not-atom_or_bottom
returns-then-not-atom_or_bottom c =
    let out = goal_out c.args.self.now.n c.args.records.now c.loop-rec.rec-index _ c.loop-rec-test.true (sym c.atom_or_bottom.ensures ∙ c.if-not-atom_or_bottom.true) in
    sym (goals_judged c.args.self.now c.args.author c.args.records.now c.in_ok-check.ensures c.in_ok-check_author.ensures c.if-records-gt-GOALS.false false out)

pub loop-rec-preserved : goal.loop-rec-preserved
loop-rec-preserved c =
    up_to c.args.self.now.n c.args.records.now c.loop-rec.rec-index _ c.loop-rec-test.true c.loop-rec.invariant
    (sym c.atom_or_bottom.ensures ∙ c.if-not-atom_or_bottom.false)

pub returns : goal.returns
returns c =
    let inside = all_judged c.args.self.now.n c.args.records.now c.loop-rec.rec-index (omega arith) c.loop-rec.invariant in
    sym (goals_judged c.args.self.now c.args.author c.args.records.now c.in_ok-check.ensures c.in_ok-check_author.ensures c.if-records-gt-GOALS.false true inside)
