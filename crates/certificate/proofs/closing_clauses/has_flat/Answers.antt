use native.Mathlib.Omega.{arith}
use mathlib.Core.Path.{refl, ◌∙◌}
use Rattle.std.proofs.Common.{rules, tests}
use Rattle.std.proofs.lemmas.Iterator.{YieldsList-from_range}
use Rattle.std.proofs.lemmas.Iterator.Search.{any_from_yields_List}
use Prim.Native.Nat.{◌+◌, ◌*◌}
use Rattle.certificate.specs.Format.{flat_bytes, flat_start}
use Rattle.certificate.specs.Layout.{flat_from}
use Rattle.ipl.specs.Clause.{same_flat}
use Rattle.atoms.specs.Words.{num}
use Rattle.certificate.proofs.Chains.{any_rows}
use Rattle.certificate.proofs.closing_clauses.has_flat.Goals as goal

pub returns : goal.returns
returns c =
    let s = c.args.sheet.now.bytes.now in
    let k = c.args.sheet.now.contents in
    any_from_yields_List (λ i. same_flat (record { left = num c.args.left; right = num c.args.right }) (flat_from s (flat_start + flat_bytes * i))) _ _ c.any.result c.any.ensures.ran (YieldsList-from_range 0 k.flats k.flats refl (omega arith)) (λ x b q h. search (rules, tests))
    ∙ any_rows (same_flat (record { left = num c.args.left; right = num c.args.right })) (λ i. flat_from s (flat_start + flat_bytes * i)) k.flats
