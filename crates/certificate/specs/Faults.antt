-- The numbers of a certificate's refusals, and the place that one of them has.
use Rattle.std.specs.Prelude.{ℕ, Option, Some, None}
use Rattle.certificate.specs.declared.fault.Fault.{Fault}
use Rattle.certificate.specs.declared.fault.Fault.TheVariants as fault

-- "13: layout; 14: a number or count out of range; 15: a closing clause missing; 16: a claim not right."
abbrev pub number_of : Fault → ℕ
number_of fault.Layout = 13
number_of fault.Range = 14
number_of fault.NotClosed = 15
number_of (fault.Wrong place) = 16

-- "With the first wrong step .. or world."
abbrev pub place_of : Fault → Option ℕ
place_of (fault.Wrong place) = Some place
place_of _ = None
