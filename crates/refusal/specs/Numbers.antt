-- The numbers of refusals, and the place that one of them has.
use Rattle.std.specs.Prelude.{ℕ, Option, Some, None}
use Rattle.refusal.specs.declared.Refusal.{Refusal}
use Rattle.refusal.specs.declared.Refusal.TheVariants as refusal

-- "Every refusal returns its number": document 01's 1 to 12, document 02's 17 to 22.
abbrev pub number_of : Refusal → ℕ
number_of refusal.Length = 1
number_of refusal.Depth = 2
number_of (refusal.Form place) = 3
number_of refusal.Names = 4
number_of refusal.Range = 5
number_of refusal.Atom = 6
number_of refusal.FlatsFull = 7
number_of refusal.ImplicationsFull = 8
number_of refusal.NoVerdict = 9
number_of refusal.NoRoom = 10
number_of refusal.WorldsFull = 11
number_of refusal.StepsFull = 12
number_of refusal.NoMark = 17
number_of refusal.MarkLost = 18
number_of refusal.PageFull = 19
number_of refusal.NoAuthor = 20
number_of refusal.NoMean = 21
number_of refusal.Letters = 22

-- "3: not a formula; with the length of the longest beginning that begins some formula."
abbrev pub place_of : Refusal → Option ℕ
place_of (refusal.Form place) = Some place
place_of _ = None
