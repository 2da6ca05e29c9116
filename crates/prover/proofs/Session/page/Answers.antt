use mathlib.Core.Path.{sym}
use native.Mathlib.Omega.{arith}
use Rattle.prover.proofs.Underway.{page_zero, answering_none, answering_all}
use Rattle.prover.proofs.Session.page.Goals as goal

pub loop-i-init : goal.loop-i-init
loop-i-init c = answering_none c.args.self.now c.args.author c.args.records.now _ c.new-models.ensures

pub answer-requires : goal.answer-requires
answer-requires c =
    let z = page_zero c.args.self.now c.args.author c.args.records.now (sym c.in_ok-check_page.ensures) in
    (z.0, omega (arith, z.1, c.loop-i.invariant.few_models))

pub returns-clause-paged : goal.returns-clause-paged
returns-clause-paged c = answering_all (sym c.in_ok-check_page.ensures) (omega arith) c.loop-i.invariant
