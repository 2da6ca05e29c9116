use native.Mathlib.Omega.{arith}
use mathlib.Core.Path.{refl, sym, ap, ◌∙◌}
use Rattle.std.proofs.Common.{rules, tests}
use Rattle.std.proofs.lemmas.Iterator.{YieldsList-from_range}
use Rattle.std.proofs.lemmas.Iterator.Search.{any_from_yields_List}
use Prim.Native.Nat.{◌+◌, ◌*◌}
use Rattle.certificate.specs.Format.{set_bytes, claim_start}
use Rattle.certificate.specs.Layout.{world_from}
use lib.Dec.{eqb}
use Rattle.ipl.specs.Lists.{any}
use Rattle.ipl.proofs.Lists.{tabulate_take}
use Rattle.atoms.specs.Words.{num}
use Rattle.atoms.proofs.Machine.{same_sets}
use Rattle.certificate.proofs.Chains.{any_rows}
use Rattle.certificate.proofs.countermodel.is_listed.Goals as goal

pub returns : goal.returns
returns c =
    let s = c.args.sheet.now.bytes.now in
    let k = c.args.sheet.now.contents in
    any_from_yields_List (λ i. eqb (num c.args.m) (world_from s (claim_start k.flats k.implications + set_bytes * i))) _ _ c.any.result c.any.ensures.ran (YieldsList-from_range 0 c.args.count c.args.count refl (omega arith)) (λ x b q h. (search (rules, tests), search (rules, tests, same_sets)))
    ∙ any_rows (eqb (num c.args.m)) (λ i. world_from s (claim_start k.flats k.implications + set_bytes * i)) c.args.count
    ∙ ap (any (eqb (num c.args.m))) (sym (tabulate_take (λ i. world_from s (claim_start k.flats k.implications + set_bytes * i)) k.rows c.args.count c.requires))
