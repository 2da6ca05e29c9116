use native.Mathlib.Omega.{arith}
use mathlib.Core.Path.{refl, ◌∙◌}
use Rattle.std.proofs.Common.{rules, tests}
use Rattle.std.proofs.lemmas.Iterator.{YieldsList-from_range}
use Rattle.std.proofs.lemmas.Iterator.Search.{any_from_yields_List}
use Prim.Native.Nat.{◌+◌, ◌*◌}
use Rattle.certificate.specs.Format.{set_bytes, claim_start}
use Rattle.certificate.specs.Layout.{world_from}
use Rattle.ipl.specs.Clause.{beyond}
use Rattle.atoms.specs.Words.{num}
use Rattle.certificate.specs.ReadBack.{implication_of}
use Rattle.certificate.proofs.Chains.{any_rows}
use Rattle.certificate.proofs.countermodel.has_beyond.Goals as goal

pub returns : goal.returns
returns c =
    let s = c.args.sheet.now.bytes.now in
    let k = c.args.sheet.now.contents in
    any_from_yields_List (λ i. beyond (implication_of c.args.x) (num c.args.m) (world_from s (claim_start k.flats k.implications + set_bytes * i))) _ _ c.any.result c.any.ensures.ran (YieldsList-from_range 0 k.rows k.rows refl (omega arith)) (λ x b q h. search (rules, tests))
    ∙ any_rows (beyond (implication_of c.args.x) (num c.args.m)) (λ i. world_from s (claim_start k.flats k.implications + set_bytes * i)) k.rows
