-- The line of a refusal: it has a place where its number is 3.
use mathlib.Core.Path.{◌≡◌, refl, ap₂, ◌∙◌}
use Prim.Native.Nat.{ℕ}
use Rattle.std.specs.Prelude.{Option}
use Rattle.refusal.specs.Numbers.{number_of, place_of}
use Rattle.refusal.specs.declared.Refusal.{Refusal}
use Rattle.refusal.specs.declared.Refusal.TheVariants as refusal
use Rattle.prover.specs.Told.{place_told}
use Rattle.text.specs.Text as text
use Rattle.text.specs.Text.{refusal_told}
use Rattle.text.specs.Output.{Appends}
use Rattle.text.specs.declared.draft.Draft.{Draft}
use Rattle.text.proofs.Appending.{same_text}
use Rattle.report.specs.Report.{text_refusal}

pub refusal_line : (e : Refusal) → refusal_told (number_of e) (place_of e) ≡ text_refusal (number_of e) (place_told (place_of e))
unfolding text.refusal
refusal_line (refusal.Form place) = refl
refusal_line _ = refl

pub refusal_appended : {d e : Draft} {n : ℕ} {p : Option ℕ} (r : Refusal) → n ≡ number_of r → p ≡ place_of r → Appends (refusal_told n p) d e
    → Appends (text_refusal (number_of r) (place_told (place_of r))) d e
refusal_appended r number place a = same_text (ap₂ refusal_told number place ∙ refusal_line r) a
