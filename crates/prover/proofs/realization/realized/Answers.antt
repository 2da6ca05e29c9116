-- Having a, b or c, or a world beyond.
use Rattle.ipl.specs.Clause.{realizes}
use mathlib.Core.Path.{refl, sym, ◌∙◌}
use Rattle.atoms.proofs.Truth.{nor}
use Rattle.prover.proofs.Beyond.{own_met}
use Rattle.prover.proofs.realization.realized.Goals as goal

pub any_beyond-requires : goal.any_beyond-requires
any_beyond-requires c =
    let own = own_met _ c.bounded.ensures _ _ _ c.single.ensures c.single-2.ensures c.single-3.ensures c.join.ensures c.join-own.ensures c.meets.ensures in
    (c.requires, (nor _ _ (nor _ _ (sym own ∙ c.if-meets.false)).0).0)

pub returns-then-meets : goal.returns-then-meets
unfolding realizes
returns-then-meets c =
    let own = own_met _ c.bounded.ensures _ _ _ c.single.ensures c.single-2.ensures c.single-3.ensures c.join.ensures c.join-own.ensures c.meets.ensures in
    rw (← own, c.if-meets.true) refl

pub returns-else-meets : goal.returns-else-meets
unfolding realizes
returns-else-meets c =
    let own = own_met _ c.bounded.ensures _ _ _ c.single.ensures c.single-2.ensures c.single-3.ensures c.join.ensures c.join-own.ensures c.meets.ensures in
    rw (← own, c.if-meets.false) c.any_beyond.ensures
