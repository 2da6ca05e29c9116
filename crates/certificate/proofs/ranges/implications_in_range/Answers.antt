use native.Mathlib.Omega.{arith}
use mathlib.Core.Path.{refl, ◌∙◌}
use Rattle.std.proofs.Common.{rules, tests}
use Rattle.std.proofs.lemmas.Iterator.{YieldsList-from_range}
use Rattle.std.proofs.lemmas.Iterator.Search.{all_from_yields_List}
use Prim.Native.Nat.{◌+◌, ◌*◌}
use Rattle.certificate.specs.Format.{implication_bytes, implication_start}
use Rattle.certificate.specs.Layout.{implication_from}
use Rattle.ipl.specs.Range.{implication_in_range}
use Rattle.certificate.proofs.Chains.{all_rows}
use Rattle.certificate.proofs.ranges.implications_in_range.Goals as goal

pub returns : goal.returns
returns c =
    let s = c.args.sheet.now.bytes.now in
    let k = c.args.sheet.now.contents in
    all_from_yields_List (λ i. implication_in_range c.args.n (implication_from s (implication_start k.flats + implication_bytes * i))) _ _ c.all.result c.all.ensures.ran (YieldsList-from_range 0 k.implications k.implications refl (omega arith)) (λ x b q h. search (rules, tests))
    ∙ all_rows (implication_in_range c.args.n) (λ i. implication_from s (implication_start k.flats + implication_bytes * i)) k.implications
