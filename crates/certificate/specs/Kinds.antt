-- The kinds of the entries, as the code names them.
use Rattle.std.specs.Prelude.{ℕ}
use Rattle.certificate.specs.Format.{flat_kind, implication_kind, goal_kind, step_kind, world_kind}
use Rattle.certificate.specs.declared.places.Kind.{Kind}
use Rattle.certificate.specs.declared.places.Kind.TheVariants as kind

abbrev pub byte_of : Kind → ℕ
byte_of kind.Flats = flat_kind
byte_of kind.Implications = implication_kind
byte_of kind.Goal = goal_kind
byte_of kind.Steps = step_kind
byte_of kind.Worlds = world_kind
