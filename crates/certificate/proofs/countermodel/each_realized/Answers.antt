use native.Mathlib.Omega.{arith}
use mathlib.Core.Path.{refl, ◌∙◌}
use Rattle.std.proofs.Common.{rules, tests}
use Rattle.std.proofs.lemmas.Iterator.{YieldsList-from_range}
use Rattle.std.proofs.lemmas.Iterator.Search.{all_from_yields_List}
use Prim.Native.Nat.{◌+◌, ◌*◌}
use Rattle.certificate.specs.Format.{implication_bytes, implication_start}
use Rattle.certificate.specs.Layout.{implication_from, problem_in}
use Rattle.ipl.specs.Clause.{realizes}
use Rattle.atoms.specs.Words.{num}
use Rattle.certificate.specs.Checked.{worlds_by}
use Rattle.certificate.proofs.Chains.{all_rows}
use Rattle.certificate.proofs.countermodel.each_realized.Goals as goal

pub returns : goal.returns
unfolding problem_in
returns c =
    let s = c.args.sheet.now.bytes.now in
    let k = c.args.sheet.now.contents in
    all_from_yields_List (λ i. realizes (worlds_by s k) (num c.args.m) (implication_from s (implication_start k.flats + implication_bytes * i))) _ _ c.all.result c.all.ensures.ran (YieldsList-from_range 0 k.implications k.implications refl (omega arith)) (λ x b q h. search (rules, tests))
    ∙ all_rows (realizes (worlds_by s k) (num c.args.m)) (λ i. implication_from s (implication_start k.flats + implication_bytes * i)) k.implications
