use native.Mathlib.Omega.{arith}
use mathlib.Core.Path.{refl, ◌∙◌}
use Rattle.std.proofs.Common.{rules, tests}
use Rattle.std.proofs.lemmas.Iterator.{YieldsList-from_range}
use Rattle.std.proofs.lemmas.Iterator.Search.{all_from_yields_List}
use Prim.Native.Nat.{◌+◌, ◌*◌}
use Rattle.certificate.specs.Format.{step_bytes, claim_start}
use Rattle.certificate.specs.Layout.{step_from}
use Rattle.ipl.specs.Search.{step_in_range}
use Rattle.certificate.proofs.Chains.{all_rows}
use Rattle.certificate.proofs.ranges.steps_in_range.Goals as goal

pub returns : goal.returns
returns c =
    let s = c.args.sheet.now.bytes.now in
    let k = c.args.sheet.now.contents in
    all_from_yields_List (λ i. step_in_range c.args.n k.implications (step_from s (claim_start k.flats k.implications + step_bytes * i))) _ _ c.all.result c.all.ensures.ran (YieldsList-from_range 0 k.rows k.rows refl (omega arith)) (λ x b q h. search (rules, tests))
    ∙ all_rows (step_in_range c.args.n k.implications) (λ i. step_from s (claim_start k.flats k.implications + step_bytes * i)) k.rows
