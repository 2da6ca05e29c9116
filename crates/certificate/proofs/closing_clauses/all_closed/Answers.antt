use native.Mathlib.Omega.{arith}
use mathlib.Core.Path.{refl, ◌∙◌}
use Rattle.std.proofs.Common.{rules, tests}
use Rattle.std.proofs.lemmas.Iterator.{YieldsList-from_range, serves_from_Range}
use Rattle.std.proofs.lemmas.Iterator.Search.{all_from_yields_List}
use Prim.Native.Nat.{◌+◌, ◌*◌}
use Rattle.certificate.specs.Format.{implication_bytes, implication_start}
use Rattle.certificate.specs.Layout.{implication_from, flats_in, problem_in}
use Rattle.ipl.specs.Clause.{closed}
use Rattle.certificate.specs.Judge.{all_closed}
use Rattle.certificate.proofs.Chains.{all_rows}
use Rattle.certificate.proofs.Closing.{implication_ranged}
use Rattle.certificate.proofs.closing_clauses.all_closed.Goals as goal

pub all-requires-clause-callable : goal.all-requires-clause-callable
all-requires-clause-callable c =
    serves_from_Range (λ x q k. search (rules, tests)) (λ x low high. search (rules, implication_ranged _ _ c.requires x high))

pub returns : goal.returns
unfolding all_closed problem_in
returns c =
    let s = c.args.sheet.now.bytes.now in
    let k = c.args.sheet.now.contents in
    all_from_yields_List (λ i. closed (flats_in s k.flats) (implication_from s (implication_start k.flats + implication_bytes * i))) _ _ c.all.result c.all.ensures.ran (YieldsList-from_range 0 k.implications k.implications refl (omega arith)) (λ x b q h. search (rules, tests))
    ∙ all_rows (closed (flats_in s k.flats)) (λ i. implication_from s (implication_start k.flats + implication_bytes * i)) k.implications
