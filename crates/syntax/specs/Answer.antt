-- What the reader answers: document 01's number and place for a refusal, or the parts of the text's formula.
use Rattle.std.specs.Prelude.{List, ◌≡◌, ℕ, Result, Ok, Err}
use Rattle.std.specs.Option.{unwrap_or}
use Rattle.ipl.specs.Formula as ipl
use Rattle.refusal.specs.Numbers.{number_of, place_of}
use Rattle.refusal.specs.declared.Refusal.{Refusal}
use Rattle.syntax.specs.Nodes.{nodes}
use Rattle.syntax.specs.Letters.{letter_count}
use Rattle.syntax.specs.Refusal.{Refused, Accepted}
use Rattle.syntax.specs.Parts.{held, Sound}
use Rattle.syntax.specs.declared.Parts.{Parts}
use Rattle.syntax.specs.declared.Reading.{Reading}

-- The text reads as a formula within the limits; the table is sound and that formula's, and the index that of the whole.
pub record Read (s : List ℕ) (root : ℕ) (p : Parts) : Type 0 where
  pub formula : ipl.Formula
  pub accepted : Accepted s formula
  pub sound : Sound p
  pub table_is : held p ≡ (nodes formula).table
  pub root_is : root ≡ (nodes formula).root

-- The place is 0 where a refusal has none. The letters are told with the parts.
abbrev pub Answers : List ℕ → Result Reading Refusal → Type 0
Answers s (Err e) = Refused s (number_of e) (unwrap_or (place_of e) 0)
Answers s (Ok r) = Read s r.root r.parts × (r.letters ≡ letter_count (held r.parts))
