-- The atom is not known.
use Rattle.std.proofs.Common.{sym, ◌∙◌}
use Rattle.sat.proofs.Table.{apart_of, meets_of, union_apart}
use Rattle.sat.proofs.learning.watching.assigned.Goals as goal

pub having-known-requires : goal.having-known-requires
having-known-requires c =
    meets_of _ _ (union_apart _ _ _ _ c.atoms.ensures (apart_of _ _ (sym c.meets.ensures ∙ c.if-meets.false))).1

pub lacking-known-requires : goal.lacking-known-requires
lacking-known-requires c =
    meets_of _ _ (union_apart _ _ _ _ c.atoms.ensures (apart_of _ _ (sym c.meets.ensures ∙ c.if-meets.false))).0
