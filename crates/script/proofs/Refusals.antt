-- What is printed of a refusal: its number is not 0.
use mathlib.Core.Bool.{false}
use mathlib.Core.Path.{◌≡◌, refl, ap}
use Prim.Native.Nat.{ℕ}
use lib.Dec.{eqb}
use Rattle.std.specs.Prelude.{List, Option, None}
use Rattle.refusal.specs.Numbers.{number_of, place_of}
use Rattle.refusal.specs.declared.Refusal.{Refusal}
use Rattle.refusal.specs.declared.Refusal.TheVariants as refusal
use Rattle.prover.specs.Told.{place_told}
use Rattle.prover.specs.declared.GoalRecord.{GoalRecord}
use Rattle.text.specs.Text.{refusal_told}
use Rattle.text.specs.Output.{Appends}
use Rattle.text.specs.declared.draft.Draft.{Draft}
use Rattle.text.proofs.Appending.{same_text}
use Rattle.report.proofs.Refusal.{refusal_appended}
use Rattle.script.specs.State.{refused_line, changed_line}
use Rattle.script.specs.Answer.{clausified_line, page_lines}

number_not_0 : (e : Refusal) → eqb (number_of e) 0 ≡ false
number_not_0 (refusal.Form place) = refl
number_not_0 _ = refl

module _ {d e : Draft} {n : ℕ} (r : Refusal) (number : n ≡ number_of r) where
  pub refused_appended : Appends (refusal_told n None) d e → Appends (refused_line (number_of r)) d e
  refused_appended a = same_text (ap refused_line number) a

  pub changed_refused : Appends (refusal_told n None) d e → Appends (changed_line (number_of r)) d e
  changed_refused a = rw (number_not_0 r) (refused_appended a)

  pub page_refused : (ys : List GoalRecord) → Appends (refusal_told n None) d e → Appends (page_lines (number_of r) ys) d e
  page_refused ys a = rw (number_not_0 r) (refused_appended a)

  pub clausified_refused : (goal : ℕ) {p : Option ℕ} → p ≡ place_of r → Appends (refusal_told n p) d e
      → Appends (clausified_line (number_of r) (place_told (place_of r)) goal) d e
  clausified_refused goal place a = rw (number_not_0 r) (refusal_appended r number place a)
