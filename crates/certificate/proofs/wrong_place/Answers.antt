-- By the kind of the claim.
use mathlib.Core.Bool.{Bool}
use mathlib.Core.List.{List}
use mathlib.Core.Option.{Option}
use mathlib.Core.Path.{sym, ap, ◌∙◌}
use Prim.Native.Nat.{ℕ}
use Rattle.certificate.specs.Format.{claim_start}
use Rattle.certificate.specs.Layout.{claim_in}
use Rattle.certificate.specs.Judge.{wrong_place}
use Rattle.certificate.specs.Checked.{problem_by}
use Rattle.certificate.specs.declared.Contents.{Contents}
use Rattle.certificate.proofs.wrong_place.Goals as goal

-- The place, by which claim it is.
abbrev place : List ℕ → Contents → Bool → Option ℕ
place s k r = wrong_place (problem_by s k) (claim_in s (claim_start k.flats k.implications) r k.rows)

pub returns-then-sheet : goal.returns-then-sheet
unfolding claim_in
returns-then-sheet c =
    let sheet = c.args.sheet.now in
    c.wrong_world.ensures ∙ ap (place sheet.bytes.now sheet.contents) (sym c.if-sheet.true)

pub returns-else-sheet : goal.returns-else-sheet
unfolding claim_in
returns-else-sheet c =
    let sheet = c.args.sheet.now in
    c.wrong_step.ensures ∙ ap (place sheet.bytes.now sheet.contents) (sym c.if-sheet.false)
